-- Defines the abstract view of a hierarchy with a cache (`Closed`): the list of its stored entities, each with its
-- parents.
use Rattle.std.specs.Prelude.{◌≡◌, Bool, true, false, cond, List, [], ◌∷◌, map, Vec, Contains, Some, unwrap_or, refl}
use Rattle.std.proofs.Common.{sym, subst}
use Rattle.std.specs.declared.alloc.Global.{Global}
use Rattle.std.specs.BTreeMap.{is_at}
use Rattle.std.specs.Map.{lookup}
use Rattle.std.specs.Ordering.{is_eq}
use Rattle.values.specs.declared.entity_uid.EntityUid.{EntityUid}
use Rattle.values.specs.Names.{uid_cmp}
use Rattle.ancestor_search.specs.Decided.{Decides, reaches}
use Rattle.ancestor_search.specs.Deciding.{decided, same_uid, Contains-here, Contains-there, Contains-none}

-- `closed_entries es` are the entries `es` of a map, each an entity with the list of its parents.
abbrev pub closed_entries : List (EntityUid × Vec EntityUid Global) → List (EntityUid × List EntityUid)
closed_entries es = map (λ e. (e.0, e.1.items)) es

-- `closed_parents xs uid` are the parents of `uid` in the view `xs`; `[]` if `uid` is not stored.
abbrev pub closed_parents : List (EntityUid × List EntityUid) → EntityUid → List EntityUid
closed_parents xs uid = unwrap_or (lookup (is_at (uid_cmp uid)) xs) []

-- `closed_stored xs` are the stored entities of the view `xs`.
abbrev pub closed_stored : List (EntityUid × List EntityUid) → List EntityUid
closed_stored xs = map (λ x. x.0) xs

-- `closed_ancestor_test xs a b` tests whether a path of one or more edges of the view `xs` leads from `b` to `a`.
abbrev pub closed_ancestor_test : List (EntityUid × List EntityUid) → EntityUid → EntityUid → Bool
closed_ancestor_test xs = reaches (closed_parents xs) (closed_stored xs)

-- `all_stored xs b a`: the entity `b` is stored in the view `xs` if it has a parent `a` there.
all_stored : (xs : List (EntityUid × List EntityUid)) (b a : EntityUid) →
    Contains (closed_parents xs b) a → Contains (closed_stored xs) b
all_stored [] b a h = Contains-none a h
all_stored (x ∷ xs) b a h =
    elim (is_eq (uid_cmp b x.0)) as (λ t. is_eq (uid_cmp b x.0) ≡ t
    → Contains (unwrap_or (cond t (Some x.1) (lookup (is_at (uid_cmp b)) xs)) []) a
    → Contains (closed_stored (x ∷ xs)) b) [
      | true ↦ λ same m.
          subst (λ z. Contains (closed_stored (x ∷ xs)) z) (sym (same_uid b x.0 same))
          (Contains-here x.0 (closed_stored xs))
      | false ↦ λ apart m. Contains-there x.0 (closed_stored xs) b (all_stored xs b a m)
    ] refl h

-- `closed_ancestor_test xs` decides the ancestor relation of the view `xs`.
pub closed_is_decided : (xs : List (EntityUid × List EntityUid)) → Decides (closed_parents xs) (closed_ancestor_test xs)
closed_is_decided xs = decided (closed_parents xs) (closed_stored xs) (λ b a h. all_stored xs b a h)
