use Rattle.std.proofs.Common.{sym, subst, List, Option, MatchOption}
use Rattle.std.specs.Prelude.{Vec}
use Rattle.std.specs.declared.alloc.Global.{Global}
use Rattle.std.specs.Borrow.{Bor}
use Rattle.values.specs.declared.entity_uid.EntityUid.{EntityUid}
use Rattle.evaluator.specs.ancestor_search.Hierarchy.{referenced}
use Rattle.evaluator.specs.ancestor_search.LeastCycle.{HasNoCycle, IsLeastCycle}
use Rattle.authoriser.proofs.Judging.{denial}
use Rattle.authoriser.proofs.deciding.denial_if_cyclic.Goals as goal

pub returns-in_ok-denial_by_cycle-in-Some : goal.returns-in_ok-denial_by_cycle-in-Some
returns-in_ok-denial_by_cycle-in-Some g c =
    let parents = g.L.Ancestry.parents c.args.prepared.now.0 in
    let least = subst (λ (o : Option (Vec (Bor EntityUid) Global)). MatchOption o (HasNoCycle parents) (λ found. IsLeastCycle parents (referenced found.items))) c.in-Some.is c.in_ok-least_cycle.ensures in
    let named_least = subst (λ (us : List (Bor EntityUid)). IsLeastCycle parents (referenced us)) (sym c.deref.ensures.value) least in
    denial parents (referenced c.deref.result.now) c.in_ok-denial_by_cycle-in-Some.field-0 named_least c.in_ok-denial_by_cycle-in-Some.ensures
