use Rattle.http_streams.specs.Laws.{in_memory}
use Rattle.http_streams.proofs.UniqueLemmas.{agree_on}
use Rattle.http_streams.proofs.laws.one_answer.Goals as goal

pub returns : goal.returns
returns g c one old old2 new new2 stream out more s x y =
    agree_on (in_memory g.S.Answers.answers) g.S.Answers.same one old old2 new new2 stream out more s x y
