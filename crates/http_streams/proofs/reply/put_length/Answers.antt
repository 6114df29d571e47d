use Rattle.std.proofs.Common.{rules}
use Rattle.http_streams.specs.ReplyText.{length_lines}
use Rattle.http_streams.proofs.reply.put_length.Goals as goal

pub returns-clause-text : goal.returns-clause-text
unfolding length_lines
returns-clause-text c = search rules
