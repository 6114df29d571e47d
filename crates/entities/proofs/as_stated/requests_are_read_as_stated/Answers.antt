use Rattle.entities.proofs.RequestsRead.{request_read, request_outcome}
use Rattle.entities.proofs.as_stated.requests_are_read_as_stated.Goals as goal

pub returns-clause-read : goal.returns-clause-read
returns-clause-read c = request_read (record { one = c.names_read_back.ensures.one; found = c.names_read_back.ensures.found })

pub returns-clause-one : goal.returns-clause-one
returns-clause-one c = λ s d. request_outcome (record { one = c.names_read_back.ensures.one; found = c.names_read_back.ensures.found }) s d
    c.requests_have_one_outcome.ensures.one_request c.requests_have_one_outcome.ensures.not_both
    c.requests_have_one_outcome.ensures.one_refusal c.requests_have_one_outcome.ensures.some
