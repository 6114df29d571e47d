use Rattle.http_replies.proofs.LineLemmas.{stamp_told}
use Rattle.http_replies.proofs.line.append_stamp.Goals as goal

pub returns-clause-items : goal.returns-clause-items
returns-clause-items c =
    stamp_told c.args.text.now.items c.args.stamp c.append_site.ensures.named c.append.ensures.items
    c.append_number.ensures.items c.append_site.ensures.items
