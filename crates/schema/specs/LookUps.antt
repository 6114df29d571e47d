-- Defines the look-ups in the parts of a schema, where a map is the list of its entries in the order of their keys.
use Rattle.std.specs.Prelude.{List, ℕ, Bool, false, Option, Some, None}
use Rattle.std.specs.List.{slice_get}
use Rattle.std.specs.Map.{lookup}
use Rattle.std.specs.BTreeMap.{is_at}
use Rattle.schema.specs.declared.spans.NumberSpan.{NumberSpan}
use Rattle.schema.specs.Spans.{has_number}
use Rattle.values.specs.declared.entity_uid.EntityUid.{EntityUid}
use Rattle.values.specs.Names.{uid_cmp, text_cmp}

-- `parents_at parents u` are the parents of the action `u`, or `None` if `parents` has no entry for it.
abbrev pub parents_at : List (EntityUid × List EntityUid) → EntityUid → Option (List EntityUid)
parents_at parents u = lookup (is_at (uid_cmp u)) parents

-- `has_number_at spans i` tests whether `spans` contain the number `i`; false if `spans` is `None`.
abbrev pub has_number_at : Option (List NumberSpan) → ℕ → Bool
has_number_at None i = false
has_number_at (Some spans) i = has_number spans i

-- `is_numbered_at spans place o` tests whether the spans at the index `place` contain the number `o`; false if `o` is
-- `None`, or if `spans` has no such index.
abbrev pub is_numbered_at : List (List NumberSpan) → ℕ → Option ℕ → Bool
is_numbered_at spans place None = false
is_numbered_at spans place (Some i) = has_number_at (slice_get spans place) i

-- `is_ancestor_at numbers spans o n` tests whether the type `n` is an ancestor of the type with the number `o`; false
-- if `o` is `None`. `numbers` has the number of each type, and `spans` has, at the index that is a type's number, the
-- spans of the numbers of the type's ancestors.
abbrev pub is_ancestor_at : List (List ℕ × ℕ) → List (List NumberSpan) → Option ℕ → List ℕ → Bool
is_ancestor_at numbers spans None n = false
is_ancestor_at numbers spans (Some place) n = is_numbered_at spans place (lookup (is_at (text_cmp n)) numbers)

-- `is_ancestor numbers spans child parent` tests whether the type `parent` is an ancestor of the type `child`, by
-- `numbers` and `spans` as in `is_ancestor_at`.
abbrev pub is_ancestor : List (List ℕ × ℕ) → List (List NumberSpan) → List ℕ → List ℕ → Bool
is_ancestor numbers spans child parent = is_ancestor_at numbers spans (lookup (is_at (text_cmp child)) numbers) parent

-- `is_action_ancestor_at numbers spans o above` is the same test for actions: whether `above` is an ancestor of the
-- action with the number `o`, where `numbers` and `spans` are those of actions; false if `o` is `None`.
abbrev pub is_action_ancestor_at : List (EntityUid × ℕ) → List (List NumberSpan) → Option ℕ → EntityUid → Bool
is_action_ancestor_at numbers spans None above = false
is_action_ancestor_at numbers spans (Some place) above =
    is_numbered_at spans place (lookup (is_at (uid_cmp above)) numbers)

-- `action_has_ancestor numbers spans u above` tests whether the action `above` is an ancestor of the action `u`, by the
-- same `numbers` and `spans`.
abbrev pub action_has_ancestor : List (EntityUid × ℕ) → List (List NumberSpan) → EntityUid → EntityUid → Bool
action_has_ancestor numbers spans u above =
    is_action_ancestor_at numbers spans (lookup (is_at (uid_cmp u)) numbers) above
