-- Defines the proof of `PathsAreDecided` (Decided.antt): the test `reaches` decides the ancestor relation. This file is
-- in specs/ because implementations of the traits `Graph` and `Ancestry` cite its lemmas.
use Rattle.std.proofs.Common.{◌≡◌, Bool, true, false, List, [], ◌∷◌, refl, ap, sym, subst, inl, inr}
use Rattle.std.proofs.Common.{◌||◌, Option, Some, None}
use Rattle.std.specs.Prelude.{Contains, IsTrue, ◌&&◌, ◌⊎◌, Vec, IsSome}
use Rattle.std.specs.List.{list_any}
use Rattle.std.specs.Ordering.{is_eq}
use Rattle.std.specs.BTreeMap.{BTreeMap, get, keys}
use Rattle.std.specs.declared.alloc.Global.{Global}
use Rattle.std.specs.Cmp.{tied_itself}
use Rattle.std.proofs.lemmas.Map.Views.{tells_apart, btree_map_contains_key_iff}
pub use Rattle.plain.proofs.Members.{Contains-here, Contains-there, Contains-cases, Contains-none}
use Rattle.values.specs.declared.entity_uid.EntityUid.{EntityUid}
use Rattle.values.specs.Names.{uid_cmp, uid_cmp-IsTotalOrder, uid_cmp-IsAntisymmetric}
use Rattle.ancestor_search.specs.Hierarchy.{Parents, Path, IsAncestor}
use Rattle.ancestor_search.specs.Search.{parents_of, items_or_none}
use Rattle.ancestor_search.specs.Decided.{Decides, HaveAllParents, is_same, reaches, PathsAreDecided}

-- Uids that compare as equal are equal.
pub same_uid : (x y : EntityUid) → is_eq (uid_cmp x y) ≡ true → x ≡ y
same_uid x y h = tells_apart uid_cmp-IsAntisymmetric x y h

-- An entity with a parent is a key of the map `edges`.
pub parent_is_stored : (edges : BTreeMap EntityUid (Vec EntityUid Global)) (b a : EntityUid) →
    Contains (parents_of edges b) a → Contains (keys edges) b
parent_is_stored edges b a h =
    (btree_map_contains_key_iff uid_cmp-IsTotalOrder uid_cmp-IsAntisymmetric edges b).0 (some (get uid_cmp edges b) h)
  where
    some : (o : Option (Vec EntityUid Global)) → Contains (items_or_none o) a → IsSome o
    some None h = Contains-none a h
    some (Some v) h = refl

-- A uid is the same as itself, by the test `is_same`.
pub same_self : (x : EntityUid) → IsTrue (is_same x x)
same_self x = ap is_eq (tied_itself uid_cmp-IsTotalOrder x)

same_if : (x y : EntityUid) → x ≡ y → IsTrue (is_same x y)
same_if x y e = subst (λ z. IsTrue (is_same x z)) e (same_self x)

-- If `a || b` is true, one of the two is true; conversely (`or_left`, `or_right`), if one is true, so is `a || b`.
pub or_cases : (a b : Bool) → IsTrue (a || b) → IsTrue a ⊎ IsTrue b
or_cases true b h = inl refl
or_cases false b h = inr h

pub or_left : (a b : Bool) → IsTrue a → IsTrue (a || b)
or_left true b h = refl
or_left false b h = cc h

pub or_right : (a b : Bool) → IsTrue b → IsTrue (a || b)
or_right true b h = refl
or_right false b h = h

and_parts : (a b : Bool) → IsTrue (a && b) → IsTrue a × IsTrue b
and_parts true b h = (refl, h)
and_parts false b h = cc h

and_both : (a b : Bool) → IsTrue a → IsTrue b → IsTrue (a && b)
and_both true b h k = k
and_both false b h k = cc h

-- If the test is true of a member of the list, `list_any` is true; conversely (`any_at`), if `list_any` is true, the
-- test is true of some member.
pub any_from : (test : EntityUid → Bool) (xs : List EntityUid) (x : EntityUid) →
    Contains xs x → IsTrue (test x) → IsTrue (list_any test xs)
any_from test [] x h t = Contains-none x h
any_from test (y ∷ ys) x h t = elim (Contains-cases y ys x h) [
  | inl e ↦ or_left (test y) _ (subst (λ z. IsTrue (test z)) (sym e) t)
  | inr r ↦ or_right (test y) _ (any_from test ys x r t)
]

pub any_at : (test : EntityUid → Bool) (xs : List EntityUid) →
    IsTrue (list_any test xs) → (x : EntityUid) × Contains xs x × IsTrue (test x)
any_at test [] h = cc h
any_at test (y ∷ ys) h = elim (or_cases (test y) _ h) [
  | inl t ↦ (y, Contains-here y ys, t)
  | inr r ↦ let (x, inside, t) = any_at test ys r in (x, Contains-there y ys x inside, t)
]

module _ (parents : Parents) where
  -- paths compose
  joined : (b : EntityUid) (cs : List EntityUid) (u a : EntityUid) →
      Path parents b cs u → IsAncestor parents a u → IsAncestor parents a b
  joined b [] u a h above = (u ∷ above.0, (h, above.1))
  joined b (c ∷ cs) u a h above = let rest = joined c cs u a h.1 above in (c ∷ rest.0, (h.0, rest.1))

  pub IsAncestor-joined : (b u a : EntityUid) → IsAncestor parents u b → IsAncestor parents a u → IsAncestor parents a b
  IsAncestor-joined b u a h above = joined b h.0 u a h.1 above

  -- if the test `reaches` is true, there is a path
  found : (us : List EntityUid) (a b : EntityUid) → IsTrue (reaches parents us a b) → IsAncestor parents a b
  unfolding reaches
  found [] a b h = cc h
  found (u ∷ us) a b h = elim (or_cases (reaches parents us a b) _ h) [
    | inl t ↦ found us a b t
    | inr t ↦
        let parts = and_parts _ _ t in
        let (p, edge, goes) = any_at _ (parents u) parts.1 in
        let on : IsAncestor parents a u = elim (or_cases (is_same p a) _ goes) [
          | inl same ↦ ([], subst (λ z. Contains (parents u) z) (same_uid p a same) edge)
          | inr more ↦ let above = found us a p more in (p ∷ above.0, (edge, above.1))
        ] in
        elim (or_cases (is_same u b) _ parts.0) [
          | inl same ↦ subst (λ z. IsAncestor parents a z) (same_uid u b same) on
          | inr before ↦ IsAncestor-joined b u a (found us u b before) on
        ]
  ]

  -- `reaches` is true for an edge that begins at one of the entities `us`, alone or followed by a path for which
  -- `reaches` is true
  more : (us : List EntityUid) (b c : EntityUid) → Contains us b → Contains (parents b) c → (a : EntityUid) →
      (c ≡ a) ⊎ IsTrue (reaches parents us a c) → IsTrue (reaches parents us a b)
  unfolding reaches
  more [] b c h edge a goes = Contains-none b h
  more (u ∷ us) b c h edge a goes = elim (Contains-cases u us b h) [
    | inl same ↦
        let edge_of_u = subst (λ z. Contains (parents z) c) (sym same) edge in
        or_right (reaches parents us a b) _ (and_both _ _ (or_left _ _ (same_if u b same)) (by_u edge_of_u goes))
    | inr t ↦ elim goes [
      | inl e ↦ or_left _ _ (more us b c t edge a (inl e))
      | inr on ↦ elim (or_cases (reaches parents us a c) _ on) [
        | inl old ↦ or_left _ _ (more us b c t edge a (inr old))
        | inr new ↦
            let parts = and_parts _ _ new in
            let to_u : IsTrue (reaches parents us u b) = elim (or_cases (is_same u c) _ parts.0) [
              | inl same ↦ more us b c t edge u (inl (sym (same_uid u c same)))
              | inr before ↦ more us b c t edge u (inr before)
            ] in
            or_right (reaches parents us a b) _ (and_both _ _ (or_right (is_same u b) _ to_u) parts.1)
      ]
    ]
  ]
    where
      by_u : Contains (parents u) c → (c ≡ a) ⊎ IsTrue (reaches parents (u ∷ us) a c) →
          IsTrue (list_any (λ p. is_same p a || reaches parents us a p) (parents u))
      by_u edge (inl e) = any_from _ (parents u) c edge (or_left _ _ (same_if c a e))
      by_u edge (inr on) = elim (or_cases (reaches parents us a c) _ on) [
        | inl old ↦ any_from _ (parents u) c edge (or_right (is_same c a) _ old)
        | inr new ↦ (and_parts _ _ new).1
      ]

  -- `reaches` is true for each path, if `us` contains every entity with a parent
  all_found : (us : List EntityUid) → HaveAllParents parents us → (a b : EntityUid) (cs : List EntityUid) →
      Path parents b cs a → IsTrue (reaches parents us a b)
  all_found us all a b [] h = more us b a (all b a h) h a (inl refl)
  all_found us all a b (c ∷ cs) h = more us b c (all b c h.0) h.0 a (inr (all_found us all a c cs h.1))

  pub decided : (us : List EntityUid) → HaveAllParents parents us → Decides parents (reaches parents us)
  decided us all a b = (found us a b, λ above. all_found us all a b above.0 above.1)

pub paths_are_decided : PathsAreDecided
paths_are_decided parents stored all = decided parents stored all

-- The keys of the map `edges` include all entities that have parents in the map.
pub map_has_all : (edges : BTreeMap EntityUid (Vec EntityUid Global)) → HaveAllParents (parents_of edges) (keys edges)
map_has_all edges = λ b a h. parent_is_stored edges b a h

-- For the parents in the map `edges`, the test `reaches` over the keys of the map decides the ancestor relation.
pub edges_are_decided : (edges : BTreeMap EntityUid (Vec EntityUid Global)) →
    Decides (parents_of edges) (reaches (parents_of edges) (keys edges))
edges_are_decided edges = decided (parents_of edges) (keys edges) (map_has_all edges)
