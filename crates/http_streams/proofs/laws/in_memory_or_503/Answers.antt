use Rattle.http_streams.proofs.MemoryLemmas.{broken, whole}
use Rattle.http_streams.proofs.laws.in_memory_or_503.Goals as goal

pub returns : goal.returns
returns g c = record {
  whole = λ old new stream out x. whole g.S.Answers.answers old new stream out x;
  broken = λ old new stream out x. broken g.S.Answers.answers old new stream out x;
}
