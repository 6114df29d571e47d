use Rattle.http_service.proofs.OneReply.{one_reply}
use Rattle.http_service.proofs.laws.requests_have_one_reply.Goals as goal

pub returns : goal.returns
returns c = one_reply c.inputs_have_one_outcome.ensures.one
