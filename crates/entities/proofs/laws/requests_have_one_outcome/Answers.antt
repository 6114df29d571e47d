use Rattle.entities.proofs.RequestLemmas.{one_request, not_both, one_refusal}
use Rattle.entities.proofs.RequestOrRefusal.{request_or_refusal}
use Rattle.entities.proofs.laws.requests_have_one_outcome.Goals as goal

pub returns-clause-one_request : goal.returns-clause-one_request
returns-clause-one_request c = one_request c.names_read_back.ensures.name

pub returns-clause-not_both : goal.returns-clause-not_both
returns-clause-not_both c = not_both c.names_read_back.ensures.name

pub returns-clause-one_refusal : goal.returns-clause-one_refusal
returns-clause-one_refusal c = one_refusal c.names_read_back.ensures.name

pub returns-clause-some : goal.returns-clause-some
returns-clause-some c = request_or_refusal (record { found = c.names_read_back.ensures.found; uids = c.texts_have_one_reading.ensures.uid })
