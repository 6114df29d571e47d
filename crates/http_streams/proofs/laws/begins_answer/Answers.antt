use Rattle.http_streams.specs.Laws.{in_memory}
use Rattle.http_streams.proofs.BeginLemmas.{begins_answer}
use Rattle.http_streams.proofs.laws.begins_answer.Goals as goal

pub returns : goal.returns
returns g c one old old2 new new2 stream out more s x y =
    begins_answer (in_memory g.S.Answers.answers) g.S.Answers.same one old old2 new new2 stream out more s x y
