use Rattle.std.proofs.Common.{[], Err, refl}
use Rattle.std.proofs.KnownBytes.{Appends-nil, Consumes-nil}
use Rattle.http_streams.specs.Logs.{notes}
use Rattle.http_streams.specs.declared.serve.LoggedFault.TheVariants.{Stream}
use Rattle.http_streams.specs.declared.serve.StreamFault.TheVariants.{NoMemory}
use Rattle.http_streams.proofs.LogLemmas.{noted_so_far}
use Rattle.http_streams.proofs.StreamLemmas.{AnswersAllRequests-from, Serves-none}
use Rattle.http_streams.proofs.OneRequest.{nothing_unfinished}
use Rattle.http_streams.proofs.serve.serve_logged.Goals as goal

pub returns-in_default-clause-answered : goal.returns-in_default-clause-answered
returns-in_default-clause-answered g c = record {
  bytes = [];
  out = [];
  read = Consumes-nil _;
  written = Appends-nil _;
  ended = (
    AnswersAllRequests-from g.S.Answers.answers 0 _ _ _ _ _ (Serves-none g.S.Answers.answers _ []) nothing_unfinished,
    refl,
    refl,
  );
}

pub returns-in_default-clause-logged : goal.returns-in_default-clause-logged
returns-in_default-clause-logged g c = record {
  bytes = [];
  out = [];
  read = Consumes-nil _;
  written = Appends-nil _;
  noted = noted_so_far g.S.Service.lines g.S.Service.refusal_line g.L.Sink.holds (Err (Stream NoMemory)) 0 _ _ _ _ _
      (Serves-none (notes g.S.Service.lines g.L.Sink.holds) _ []) (refl, refl);
  failed = refl;
}
