-- The least of a list, one more at a time.
use Rattle.std.proofs.Common.{◌≡◌, ℕ, Bool, true, false, List, [], ◌∷◌, ◌++◌, refl, ap, sym, subst, inl, inr, ◌∙◌, Option, Some, None, MatchOption}
use Rattle.std.specs.Prelude.{IsTrue}
use Rattle.std.specs.Ordering.{is_gt, is_lt, ordering_reverse}
use Rattle.std.specs.declared.cmp.Ordering.{Ordering}
use Rattle.std.specs.declared.cmp.Ordering.TheVariants.{Less, Equal, Greater}
use Rattle.std.specs.Cmp.{upto, tied_itself}
use Rattle.std.specs.Borrow.{Bor}
use Rattle.std.specs.Option.{option_copied}
use Rattle.std.proofs.lemmas.List.Elements.{Contains-append_left, Contains-push, Contains-push_cases}
use Rattle.values.specs.Names.{uid_cmp, uid_cmp-IsTotalOrder}
use Rattle.values.specs.declared.entity_uid.EntityUid.{EntityUid}
use Rattle.ancestor_search.specs.inner.Backwards.{IsLeastOf}

not_above_itself : (x : EntityUid) → is_gt (uid_cmp x x) ≡ false
not_above_itself x = ap is_gt (tied_itself uid_cmp-IsTotalOrder x)

below_not_above : (o : Ordering) → is_lt o ≡ true → is_gt o ≡ false
below_not_above Less e = refl
below_not_above Equal e = cc e
below_not_above Greater e = cc e

turned : (o : Ordering) → is_lt o ≡ false → is_gt (ordering_reverse o) ≡ false
turned Less e = cc e
turned Equal e = refl
turned Greater e = refl

module _ (ps : List EntityUid) (dist : EntityUid → Option ℕ) (d : ℕ) (x : EntityUid) where
  -- x is at the distance, and below the least so far
  pub IsLeastOf-take : (o : Option EntityUid) → IsLeastOf ps dist d o → dist x ≡ Some d → MatchOption o (IsTrue true) (λ y. true ≡ is_lt (uid_cmp x y)) → IsLeastOf (ps ++ x ∷ []) dist d (Some x)
  IsLeastOf-take None s at_x below = record {
    among = Contains-push ps x;
    at = at_x;
    least = λ e h at_e. elim (Contains-push_cases ps x e h) [ inl t ↦ absurd (s e t at_e) | inr same ↦ subst (λ z. is_gt (uid_cmp x z) ≡ false) same (not_above_itself x) ];
  }
  IsLeastOf-take (Some y) s at_x below = record {
    among = Contains-push ps x;
    at = at_x;
    least = λ e h at_e. elim (Contains-push_cases ps x e h) [
      | inl t ↦ upto uid_cmp-IsTotalOrder x y e (below_not_above (uid_cmp x y) (sym below)) (s.least e t at_e)
      | inr same ↦ subst (λ z. is_gt (uid_cmp x z) ≡ false) same (not_above_itself x)
    ];
  }

  -- x is at another distance
  pub IsLeastOf-far : (o : Option EntityUid) → IsLeastOf ps dist d o → (dist x ≡ Some d → ⊥) → IsLeastOf (ps ++ x ∷ []) dist d o
  IsLeastOf-far None s no_x = λ e h at_e. elim (Contains-push_cases ps x e h) [ inl t ↦ s e t at_e | inr same ↦ no_x (ap dist same ∙ at_e) ]
  IsLeastOf-far (Some y) s no_x = record {
    among = Contains-append_left ps _ y s.among;
    at = s.at;
    least = λ e h at_e. elim (Contains-push_cases ps x e h) [ inl t ↦ s.least e t at_e | inr same ↦ absurd (no_x (ap dist same ∙ at_e)) ];
  }

  -- x is at the distance, and not below the least so far
  pub IsLeastOf-leave : (o : Option EntityUid) → IsLeastOf ps dist d o → MatchOption o (IsTrue false) (λ y. false ≡ is_lt (uid_cmp x y)) → IsLeastOf (ps ++ x ∷ []) dist d o
  IsLeastOf-leave None s below = cc below
  IsLeastOf-leave (Some y) s below = record {
    among = Contains-append_left ps _ y s.among;
    at = s.at;
    least = λ e h at_e. elim (Contains-push_cases ps x e h) [
      | inl t ↦ s.least e t at_e
      | inr same ↦ subst (λ z. is_gt (uid_cmp y z) ≡ false) same (rw (uid_cmp-IsTotalOrder.antisymm y x) (turned (uid_cmp x y) (sym below)))
    ];
  }

pub below-copied : (o : Option (Bor EntityUid)) (x : EntityUid) (b r : Bool) → MatchOption o (IsTrue b) (λ y. b ≡ is_lt (uid_cmp x y.now)) → b ≡ r → MatchOption (option_copied o) (IsTrue r) (λ y. r ≡ is_lt (uid_cmp x y))
below-copied None x b r h e = sym e ∙ h
below-copied (Some y) x b r h e = sym e ∙ h
