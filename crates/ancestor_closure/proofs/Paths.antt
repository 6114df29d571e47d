-- What a change of one entity's parents does to paths.
use Rattle.std.proofs.Common.{◌≡◌, Bool, true, false, List, [], ◌∷◌, refl, sym, subst, inl, inr}
use Rattle.std.specs.Prelude.{Contains, ◌⊎◌}
use Rattle.std.specs.Ordering.{is_eq}
use Rattle.values.specs.declared.entity_uid.EntityUid.{EntityUid}
use Rattle.values.specs.Names.{uid_cmp}
use Rattle.ancestor_search.specs.Hierarchy.{Parents, Path, IsAncestor}
use Rattle.ancestor_search.specs.Deciding.{same_uid, same_self}
use Rattle.ancestor_search.proofs.Steps.{IsAncestor-more}
use Rattle.ancestor_closure.specs.Lists.{IsListOf, AgreeBut}

-- x is the entity or has it above
abbrev pub Leads : Parents → EntityUid → EntityUid → Type 0
Leads p uid x = (x ≡ uid) ⊎ IsAncestor p uid x

-- where two cannot be the same, the test says so
pub apart : (uid q : EntityUid) → (uid ≡ q → ⊥) → is_eq (uid_cmp uid q) ≡ false
apart uid q ne = at (is_eq (uid_cmp uid q)) refl
  where
    at : (b : Bool) → is_eq (uid_cmp uid q) ≡ b → is_eq (uid_cmp uid q) ≡ false
    at true e = absurd (ne (same_uid uid q e))
    at false e = e

pub differ : (uid q : EntityUid) → is_eq (uid_cmp uid q) ≡ false → uid ≡ q → ⊥
differ uid q e same = let yes : is_eq (uid_cmp uid q) ≡ true = subst (λ z. is_eq (uid_cmp uid z) ≡ true) same (same_self uid) in cc (yes, e)

-- graphs that differ at uid alone have the same paths to uid
pub carried : (P Q : Parents) (uid : EntityUid) → AgreeBut uid P Q → (s : EntityUid) (cs : List EntityUid) → Path P s cs uid → Leads Q uid s
carried P Q uid agree s [] h = at (is_eq (uid_cmp uid s)) refl
  where
    at : (b : Bool) → is_eq (uid_cmp uid s) ≡ b → Leads Q uid s
    at true e = inl (sym (same_uid uid s e))
    at false e = inr ([], rw (← agree s e) h)
carried P Q uid agree s (c ∷ cs) h = at (carried P Q uid agree c cs h.1) (is_eq (uid_cmp uid s)) refl
  where
    at : Leads Q uid c → (b : Bool) → is_eq (uid_cmp uid s) ≡ b → Leads Q uid s
    at rest true e = inl (sym (same_uid uid s e))
    at (inl same) false e = inr ([], rw (← agree s e) (subst (λ y. Contains (P s) y) same h.0))
    at (inr above) false e = inr (c ∷ above.0, (rw (← agree s e) h.0, above.1))

-- and the same paths from what uid is not above
carried_on : (P Q : Parents) (uid : EntityUid) → AgreeBut uid P Q → (q : EntityUid) (cs : List EntityUid) (a : EntityUid) → Path P q cs a → (uid ≡ q → ⊥) → (IsAncestor P uid q → ⊥) → Path Q q cs a
carried_on P Q uid agree q [] a h ne none = rw (← agree q (apart uid q ne)) h
carried_on P Q uid agree q (c ∷ cs) a h ne none = (
  rw (← agree q (apart uid q ne)) h.0,
  carried_on P Q uid agree c cs a h.1 (λ e. none ([], subst (λ y. Contains (P q) y) (sym e) h.0)) (λ above. none (c ∷ above.0, (h.0, above.1))),
)

-- P before a change of the parents of uid, and Q after it
module _ (P Q : Parents) (uid : EntityUid) (agree : AgreeBut uid P Q) where
  agree_back : AgreeBut uid Q P
  agree_back r e = sym (agree r e)

  -- a list that has no need to change
  pub IsListOf-kept : (q : EntityUid) (xs : List EntityUid) → (uid ≡ q → ⊥) → (IsAncestor P uid q → ⊥) → IsListOf P q xs → IsListOf Q q xs
  IsListOf-kept q xs ne none is = (λ a. (there a, back a), is.1)
    where
      there : (a : EntityUid) → Contains xs a → IsAncestor Q a q
      there a h = let above = (is.0 a).0 h in (above.0, carried_on P Q uid agree q above.0 a above.1 ne none)

      none_after : IsAncestor Q uid q → ⊥
      none_after above = elim (carried Q P uid agree_back q above.0 above.1) [ inl e ↦ ne (sym e) | inr before ↦ none before ]

      back : (a : EntityUid) → IsAncestor Q a q → Contains xs a
      back a above = (is.0 a).1 (above.0, carried_on Q P uid agree_back q above.0 a above.1 ne none_after)

-- paths upwards are paths downwards, turned round
turned : (p children : Parents) → ((x y : EntityUid) → Contains (p y) x → Contains (children x) y) → (q : EntityUid) (cs : List EntityUid) (uid : EntityUid) →
    Path p q cs uid → IsAncestor children q uid
turned p children covers q [] uid h = ([], covers uid q h)
turned p children covers q (c ∷ cs) uid h = IsAncestor-more children uid c q (turned p children covers c cs uid h.1) (covers c q h.0)

pub IsAncestor-turned : (p children : Parents) → ((x y : EntityUid) → Contains (p y) x → Contains (children x) y) → (q uid : EntityUid) → IsAncestor p uid q → IsAncestor children q uid
IsAncestor-turned p children covers q uid above = turned p children covers q above.0 uid above.1

-- with the same parents, the paths are the same
same_paths : (P Q : Parents) → ((b a : EntityUid) → Contains (P b) a → Contains (Q b) a) → (q : EntityUid) (cs : List EntityUid) (a : EntityUid) → Path P q cs a → Path Q q cs a
same_paths P Q more q [] a h = more q a h
same_paths P Q more q (c ∷ cs) a h = (more q c h.0, same_paths P Q more c cs a h.1)

pub same_above : (P Q : Parents) → ((b a : EntityUid) → Contains (P b) a → Contains (Q b) a) → (a b : EntityUid) → IsAncestor P a b → IsAncestor Q a b
same_above P Q more a b above = (above.0, same_paths P Q more b above.0 a above.1)
