-- Cycles that a change of one entity's parents closes.
use Rattle.std.proofs.Common.{◌≡◌, Bool, true, false, cond, List, [], ◌∷◌, refl, ap, sym, subst, inl, inr}
use Rattle.std.specs.Prelude.{Contains, ◌⊎◌}
use Rattle.std.specs.Ordering.{is_eq}
use Rattle.std.specs.Cmp.{eq_by_cmp_equiv}
use Rattle.values.specs.declared.entity_uid.EntityUid.{EntityUid}
use Rattle.values.specs.Names.{uid_cmp, uid_cmp-IsTotalOrder}
use Rattle.ancestor_search.specs.Hierarchy.{Parents, Path, IsAncestor, with_parents}
use Rattle.ancestor_search.specs.Deciding.{same_uid}
use Rattle.ancestor_closure.specs.Lists.{AgreeBut}

-- x is the entity or has it above
abbrev pub Leads : Parents → EntityUid → EntityUid → Type 0
Leads p uid x = (x ≡ uid) ⊎ IsAncestor p uid x

-- graphs that differ at uid alone have the same paths to uid
carried : (P Q : Parents) (uid : EntityUid) → AgreeBut uid P Q → (s : EntityUid) (cs : List EntityUid) → Path P s cs uid → Leads Q uid s
carried P Q uid agree s [] h = at (is_eq (uid_cmp uid s)) refl
  where
    at : (b : Bool) → is_eq (uid_cmp uid s) ≡ b → Leads Q uid s
    at true e = inl (sym (same_uid uid s e))
    at false e = inr ([], rw (← agree s e) h)
carried P Q uid agree s (c ∷ cs) h = at (carried P Q uid agree c cs h.1) (is_eq (uid_cmp uid s)) refl
  where
    at : Leads Q uid c → (b : Bool) → is_eq (uid_cmp uid s) ≡ b → Leads Q uid s
    at rest true e = inl (sym (same_uid uid s e))
    at (inl same) false e = inr ([], rw (← agree s e) (subst (λ y. Contains (P s) y) same h.0))
    at (inr above) false e = inr (c ∷ above.0, (rw (← agree s e) h.0, above.1))

module _ (p : Parents) (uid : EntityUid) (ps : List EntityUid) where
  at_uid : with_parents p uid ps uid ≡ ps
  at_uid = ap (λ b. cond b ps (p uid)) ((eq_by_cmp_equiv uid_cmp-IsTotalOrder).refl uid)

  elsewhere : (q : EntityUid) → is_eq (uid_cmp uid q) ≡ false → with_parents p uid ps q ≡ p q
  elsewhere q e = ap (λ b. cond b ps (p q)) e

  pub agrees : AgreeBut uid p (with_parents p uid ps)
  agrees q e = sym (elsewhere q e)

  -- a cycle through the entity begins with one of its parents
  pub cycle_leads : IsAncestor (with_parents p uid ps) uid uid → (x : EntityUid) × Contains ps x × Leads p uid x
  cycle_leads ([], h) = (uid, subst (λ l. Contains l uid) at_uid h, inl refl)
  cycle_leads ((c ∷ cs), h) = (c, subst (λ l. Contains l c) at_uid h.0, carried (with_parents p uid ps) p uid elsewhere c cs h.1)

  pub leads_cycle : (x : EntityUid) → Contains ps x → Leads p uid x → IsAncestor (with_parents p uid ps) uid uid
  leads_cycle x there (inl same) = ([], subst (λ l. Contains l uid) (sym at_uid) (subst (λ z. Contains ps z) same there))
  leads_cycle x there (inr above) = elim (carried p (with_parents p uid ps) uid agrees x above.0 above.1) [
    | inl same ↦ ([], subst (λ l. Contains l uid) (sym at_uid) (subst (λ z. Contains ps z) same there))
    | inr up ↦ (x ∷ up.0, (subst (λ l. Contains l x) (sym at_uid) there, up.1))
  ]
