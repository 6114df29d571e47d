use Rattle.test_calls.proofs.streams.agrees.Goals as goal

pub returns : goal.returns
returns c old old2 new new2 stream out more same x y =
    c.one_answer.ensures c.has_one_answer.ensures old old2 new new2 stream out more same x y
