use Rattle.std.proofs.Common.{◌∙◌}
use Rattle.ancestor_closure.proofs.Following.{ok_always}
use Rattle.ancestor_closure.proofs.changing.add_entries.Goals as goal

pub returns-clause-lists : goal.returns-clause-lists
returns-clause-lists c = λ q. c.reserve_all.ensures.lists q ∙ c.reserve.ensures.lists q

pub returns-clause-children : goal.returns-clause-children
returns-clause-children c = λ q. c.reserve_all.ensures.children q ∙ c.reserve.ensures.children q

pub returns-clause-stay : goal.returns-clause-stay
returns-clause-stay c = λ q h. c.reserve_all.ensures.stay q (c.reserve.ensures.stay q h)

pub returns-clause-there : goal.returns-clause-there
returns-clause-there c = ok_always c.reserve_all.result (c.reserve_all.ensures.stay c.args.uid.now c.in_ok-reserve.ensures.there)
