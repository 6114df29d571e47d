use Rattle.std.proofs.Common.{subst}
use Rattle.std.specs.Prelude.{Contains}
use Rattle.ancestor_search.specs.Hierarchy.{referenced}
use Rattle.ancestor_search.specs.Deciding.{Contains-none}
use Rattle.ancestor_search.proofs.First.{none_first, first_in, first_least, cycle_from_walk}
use Rattle.ancestor_search.proofs.named_cycle.least_cycle_among.Goals as goal

pub returns-in_default : goal.returns-in_default
returns-in_default g c = λ x above. Contains-none x (subst (λ xs. Contains xs x) (none_first c.args.cyclic.now c.in_default.ensures.value) ((c.requires.all x).1 above))

pub returns-in_default-2 : goal.returns-in_default-2
returns-in_default-2 g c = λ x above.
    let start = first_in c.args.cyclic.now c.in-Some.start.now c.in-Some.ensures.value in
    let none = rw c.in_default-2.is at c.in_ok-known.ensures in
    none ((c.requires.all c.in-Some.start.now.now).0 start)

pub returns : goal.returns
returns g c = cycle_from_walk (g.G.ParentsOf.parents c.args.graph.now) c.in-Some.start.now.now (referenced c.in_ok-found.found.items) c.in_ok-found.ensures
    (λ x above. first_least c.args.cyclic.now c.in-Some.start.now c.in-Some.ensures.value c.requires.ascending x ((c.requires.all x).1 above))
