use Rattle.std.proofs.Common.{option_map}
use Rattle.std.specs.Process.{exit_status}
use Rattle.explanations.specs.Files.{files_of}
use Rattle.program.specs.ExplainOption.{IsRefusalText, IsErrorReported}
use Rattle.program.proofs.ExplainedLemmas.{followed}
use Rattle.program.proofs.rejecting.report_rejected.Goals as goal

pub returns : goal.returns
returns g c =
    followed g.H.Host.does _ _ _ c.args.explain (IsRefusalText (files_of c.args.given.now) (option_map (λ m. m.now) c.args.message) c.args.refusal) (IsErrorReported c.args.refusal)
    (exit_status c.report_refusal-end.result) c.if-not-explain.false c.report_refusal-end.ensures c.explain_refusal.ensures
