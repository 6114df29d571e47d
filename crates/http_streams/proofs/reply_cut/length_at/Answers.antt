use Rattle.std.proofs.Common.{rules}
use Rattle.http_streams.proofs.reply_cut.length_at.Goals as goal

pub returns-in_default : goal.returns-in_default
returns-in_default c = search rules
