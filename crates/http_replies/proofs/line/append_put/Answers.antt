use Rattle.http_replies.proofs.LineLemmas.{put_told}
use Rattle.http_replies.proofs.line.append_put.Goals as goal

pub returns-clause-items : goal.returns-clause-items
returns-clause-items c =
    put_told c.args.text.now.items c.args.stamp c.args.impossible c.append_site.ensures.named c.append.ensures.items
    c.append_number.ensures.items c.append-2.ensures.items c.append_boolean.ensures.items c.append_site.ensures.items
