use Rattle.http_replies.proofs.LineLemmas.{one_line}
use Rattle.http_replies.proofs.laws.errors_have_one_line.Goals as goal

pub returns : goal.returns
returns c = one_line
