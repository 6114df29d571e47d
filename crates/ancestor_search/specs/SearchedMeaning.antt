-- Defines the abstract view of a hierarchy without a cache (`Searched`): the parents of each entity, and a test that
-- decides the ancestor relation.
use Rattle.std.specs.Prelude.{Bool}
use Rattle.std.specs.BTreeMap.{keys}
use Rattle.values.specs.declared.entity_uid.EntityUid.{EntityUid}
use Rattle.ancestor_search.specs.Hierarchy.{Parents}
use Rattle.ancestor_search.specs.Search.{parents_of}
use Rattle.ancestor_search.specs.Decided.{Decides, reaches}
use Rattle.ancestor_search.specs.Deciding.{edges_are_decided}
use Rattle.ancestor_search.specs.declared.searched.Searched.{Searched}

-- `searched_parents s` is the hierarchy that `s` represents.
abbrev pub searched_parents : Searched → Parents
searched_parents s = parents_of s.edges

-- `searched_ancestor_test s a b` tests whether `a` is an ancestor of `b` in `s`.
abbrev pub searched_ancestor_test : Searched → EntityUid → EntityUid → Bool
searched_ancestor_test s = reaches (parents_of s.edges) (keys s.edges)

-- `searched_ancestor_test s` decides the ancestor relation of `s`.
pub searched_is_decided : (s : Searched) → Decides (searched_parents s) (searched_ancestor_test s)
searched_is_decided s = edges_are_decided s.edges
