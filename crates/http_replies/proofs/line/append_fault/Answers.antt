use Rattle.http_replies.proofs.LineLemmas.{fault_told}
use Rattle.http_replies.proofs.line.append_fault.Goals as goal

pub returns-clause-items : goal.returns-clause-items
returns-clause-items c =
    fault_told c.args.text.now.items c.args.code c.args.place c.args.within c.from.result c.place_number.result
    c.within_number.result c.from.ensures c.place_number.ensures c.within_number.ensures c.append.ensures.items
    c.append_number.ensures.items c.append-2.ensures.items c.append_or_null.ensures.items c.append-3.ensures.items
    c.append_or_null-2.ensures.items c.append-4.ensures.items
