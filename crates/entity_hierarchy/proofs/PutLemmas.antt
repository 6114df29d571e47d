-- Where each edge of one hierarchy is one of another, and each of the other is a path in the first, it is no matter in
-- which an entity is given these parents: it is on a cycle in both or in neither.
use Rattle.std.proofs.Common.{◌≡◌, List, [], ◌∷◌, Bool, true, false, refl, sym, subst, inl, inr}
use Rattle.std.specs.Prelude.{Contains, ◌⊎◌, ◌↔◌, if◌then◌else◌}
use Rattle.std.specs.Ordering.{is_eq}
use Rattle.values.specs.declared.entity_uid.EntityUid.{EntityUid}
use Rattle.values.specs.Names.{uid_cmp}
use Rattle.authoriser.specs.ancestor_search.Hierarchy.{Parents, Path, IsAncestor, IsOnCycle, with_parents}
use Rattle.authoriser.specs.ancestor_search.Deciding.{same_uid, IsAncestor-joined}

module _ (P Q : Parents) (edge : (b c : EntityUid) → Contains (P b) c → Contains (Q b) c)
    (jump : (b c : EntityUid) → Contains (Q b) c → IsAncestor P c b) (u : EntityUid) (ps : List EntityUid) where
  abbrev P' : Parents
  P' = with_parents P u ps

  abbrev Q' : Parents
  Q' = with_parents Q u ps

  edge_at : (b c : EntityUid) (own : Bool) → Contains (if own then ps else P b) c → Contains (if own then ps else Q b) c
  edge_at b c true h = h
  edge_at b c false h = edge b c h

  put_edge : (b c : EntityUid) → Contains (P' b) c → Contains (Q' b) c
  put_edge b c h = edge_at b c (is_eq (uid_cmp u b)) h

  path : (b : EntityUid) (cs : List EntityUid) (a : EntityUid) → Path P' b cs a → Path Q' b cs a
  path b [] a h = put_edge b a h
  path b (c ∷ cs) a h = (put_edge b c h.0, path c cs a h.1)

  -- an edge from another entity stays
  other_edge : (b c : EntityUid) → is_eq (uid_cmp u b) ≡ false → Contains (P b) c → Contains (P' b) c
  other_edge b c apart h = subst (λ (own : Bool). Contains (if own then ps else P b) c) (sym apart) h

  -- one edge, and what comes behind it
  behind : (b c a : EntityUid) → Contains (P' b) c → (is_eq (uid_cmp u c) ≡ false → IsAncestor P' u c ⊎ IsAncestor P' a c)
      → (own : Bool) → is_eq (uid_cmp u c) ≡ own → IsAncestor P' u b ⊎ IsAncestor P' a b
  behind b c a first rest true own = inl ([], subst (λ (d : EntityUid). Contains (P' b) d) (sym (same_uid u c own)) first)
  behind b c a first rest false apart = elim (rest apart) [
    | inl met ↦ inl (IsAncestor-joined P' b c u ([], first) met)
    | inr stayed ↦ inr (IsAncestor-joined P' b c a ([], first) stayed)
  ]

  -- a path that begins at another entity stays, or u is met on it
  stays_or_meets : (b : EntityUid) (cs : List EntityUid) (a : EntityUid) → is_eq (uid_cmp u b) ≡ false → Path P b cs a
      → IsAncestor P' u b ⊎ IsAncestor P' a b
  stays_or_meets b [] a apart h = inr ([], other_edge b a apart h)
  stays_or_meets b (c ∷ cs) a apart h =
      behind b c a (other_edge b c apart h.0) (λ further. stays_or_meets c cs a further h.1) (is_eq (uid_cmp u c)) refl

  -- so an edge of the other leads on to u where there is a way on
  leads_on : (b c : EntityUid) → (IsAncestor P' c b → IsAncestor P' u b) → (own : Bool) → is_eq (uid_cmp u b) ≡ own
      → Contains (if own then ps else Q b) c → IsAncestor P' u b
  leads_on b c on true own h = on ([], subst (λ (t : Bool). Contains (if t then ps else P b) c) (sym own) h)
  leads_on b c on false apart h =
      let found = jump b c h in
      elim (stays_or_meets b found.0 c apart found.1) [ inl met ↦ met | inr stayed ↦ on stayed ]

  to_u : (b : EntityUid) (cs : List EntityUid) → Path Q' b cs u → IsAncestor P' u b
  to_u b [] h = leads_on b u (λ above. above) (is_eq (uid_cmp u b)) refl h
  to_u b (c ∷ cs) h =
      let rest = to_u c cs h.1 in
      leads_on b c (λ above. IsAncestor-joined P' b c u above rest) (is_eq (uid_cmp u b)) refl h.0

  pub cycles_alike : IsOnCycle P' u ↔ IsOnCycle Q' u
  cycles_alike = ((λ on. (on.0, path u on.0 u on.1)), (λ on. to_u u on.0 on.1))
