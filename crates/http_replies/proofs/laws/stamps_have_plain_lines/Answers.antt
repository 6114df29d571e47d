use Rattle.http_replies.proofs.LineLemmas.{stamp_plain, put_plain}
use Rattle.http_replies.proofs.laws.stamps_have_plain_lines.Goals as goal

pub returns-clause-stamp : goal.returns-clause-stamp
returns-clause-stamp c = stamp_plain

pub returns-clause-put : goal.returns-clause-put
returns-clause-put c = put_plain
