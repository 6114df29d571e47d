use Rattle.http_service.proofs.laws.cuts_make_no_difference.Goals as goal

pub returns-clause-whole : goal.returns-clause-whole
returns-clause-whole c old old2 new new2 stream out more alike x y =
    c.one_answer.ensures c.requests_have_one_reply.ensures old old2 new new2 stream out more alike x y

pub returns-clause-broken : goal.returns-clause-broken
returns-clause-broken c old old2 new new2 stream out more alike x y =
    c.begins_answer.ensures c.requests_have_one_reply.ensures old old2 new new2 stream out more alike x y
