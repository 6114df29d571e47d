use Rattle.http_streams.proofs.OneReply.{has_one_reply}
use Rattle.http_streams.proofs.framing_laws.one_reply.Goals as goal

pub returns : goal.returns
returns c stream = has_one_reply stream
