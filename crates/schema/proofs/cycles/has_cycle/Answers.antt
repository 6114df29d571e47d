use Rattle.std.proofs.Common.{refl}
use Rattle.ancestor_search.specs.contracts.searched.SearchedAncestry.TheImpl as searched
use Rattle.schema.proofs.CycleLemmas.{cycle_found, cycle_none}
use Rattle.schema.proofs.cycles.has_cycle.Goals as goal

pub returns-in-Some : goal.returns-in-Some
returns-in-Some c = (
  (λ yes. cycle_found (searched.parents-value.it c.args.edges.now) c.in_ok-found.found.items c.deref.result.now c.in_ok-found.ensures.all c.deref.ensures.value c.first.result c.in-Some.field-0 c.first.ensures.value c.in-Some.is),
  (λ h. refl),
)

pub returns : goal.returns
returns c = (
  (λ yes. absurd cc),
  (λ h. absurd (cycle_none (searched.parents-value.it c.args.edges.now) c.in_ok-found.found.items c.deref.result.now c.in_ok-found.ensures.all c.deref.ensures.value c.first.result c.first.ensures.value c.in-None.is h)),
)
