use Rattle.std.proofs.Common.{append_assoc}
use Rattle.http_replies.proofs.LineLemmas.{taken_pieces}
use Rattle.http_replies.proofs.line.append_taken.Goals as goal

pub returns-clause-items : goal.returns-clause-items
returns-clause-items c =
    rw (c.append-2.ensures.items, c.append_number.ensures.items, c.append.ensures.items, taken_pieces c.args.count)
    (simp append_assoc)
