-- Defines the lists of ancestors that the code builds from scratch for the entities of a graph.
use Rattle.std.specs.Prelude.{◌≡◌, ◌⊎◌, List, [], Contains}
use Rattle.values.specs.declared.entity_uid.EntityUid.{EntityUid}
use Rattle.ancestor_search.specs.Hierarchy.{Parents}
use Rattle.ancestor_closure.specs.Lists.{IsListOf}

-- `AreListsOf parents us ancestors` holds if `ancestors` maps each of the entities `us` to the list of its ancestors in
-- the hierarchy `parents`, and every other entity to `[]`.
abbrev pub AreListsOf : Parents → List EntityUid → (EntityUid → List EntityUid) → Type 0
AreListsOf parents us ancestors = (b : EntityUid) →
    (Contains us b × IsListOf parents b (ancestors b)) ⊎ ((Contains us b → ⊥) × (ancestors b ≡ []))
