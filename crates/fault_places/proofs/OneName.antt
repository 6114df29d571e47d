-- The first unknown name stands at one place.
use Rattle.std.specs.Prelude.{◌≡◌, ℕ, suc, List, [], ◌∷◌, ◌++◌, length, All, refl}
use Rattle.std.proofs.Common.{sym, ap, ◌∙◌, subst}
use Rattle.std.proofs.lemmas.List.Elements.{All-head, All-tail}
use Rattle.grammar_core.specs.declared.expr.Expr.{Expr}
use Rattle.type_checker.specs.schema.Schemas.{StatedSchema}
use Rattle.typing.specs.declared.fault.TypeFault.{TypeFault}
use Rattle.validator.specs.Names.{Name, names_in}
use Rattle.validator.specs.Unknown.{FirstUnknown}
use Rattle.validator.proofs.KnownLemmas.{none_first}
use Rattle.fault_places.specs.NamesAt
use Rattle.fault_places.specs.NamesAt.{FirstUnknownAt}
use Rattle.fault_places.proofs.UnknownNames.{AreKnown, itself_first, operand_first}

same_name : {m n : Name} → m ∷ [] ≡ n ∷ [] → m ≡ n
same_name e = cc

same_head : {x y : Expr} {xs ys : List Expr} → x ∷ xs ≡ y ∷ ys → x ≡ y
same_head e = cc

same_tail : {x y : Expr} {xs ys : List Expr} → x ∷ xs ≡ y ∷ ys → xs ≡ ys
same_tail e = cc

module _ (s : StatedSchema) where
  -- the place has a name that is the first unknown one
  pub is_first : {x : Expr} {p : List ℕ} {n : Name} {f : TypeFault} → FirstUnknownAt s x p n f → FirstUnknown s (names_in x) f
  is_first (NamesAt.unknown_itself {x} {n} {f} k e u) = itself_first s x n f k e u
  is_first (NamesAt.unknown_in {x} {y} {f = f} before rest e k h) = operand_first s x before rest y f e k (is_first h)

  not_known : (x : Expr) {f : TypeFault} → AreKnown s x → FirstUnknown s (names_in x) f → ⊥
  not_known x {f} k h = none_first s (names_in x) f k h

  -- y is unknown, so not all of these are known
  among_known : (before rest : List Expr) (y : Expr) {f : TypeFault} → All (AreKnown s) (before ++ y ∷ rest)
      → FirstUnknown s (names_in y) f → ⊥
  among_known [] rest y k h = not_known y (All-head (AreKnown s) y rest k) h
  among_known (b ∷ bs) rest y k h = among_known bs rest y (All-tail (AreKnown s) b (bs ++ y ∷ rest) k) h

  -- two splits before the first that is unknown are one
  one_split : (before rest after others : List Expr) (y z : Expr) {f g : TypeFault} → before ++ y ∷ rest ≡ after ++ z ∷ others
      → All (AreKnown s) before → FirstUnknown s (names_in y) f → All (AreKnown s) after → FirstUnknown s (names_in z) g
      → (length before ≡ length after) × (y ≡ z)
  one_split [] rest [] others y z e k h l g = (refl, same_head e)
  one_split [] rest (a ∷ cs) others y z {f} e k h l g =
      absurd (not_known a (All-head (AreKnown s) a cs l) (subst (λ w. FirstUnknown s (names_in w) f) (same_head e) h))
  one_split (b ∷ bs) rest [] others y z {g = g} e k h l i =
      absurd (not_known b (All-head (AreKnown s) b bs k) (subst (λ w. FirstUnknown s (names_in w) g) (sym (same_head e)) i))
  one_split (b ∷ bs) rest (a ∷ cs) others y z e k h l g =
      let t = one_split bs rest cs others y z (same_tail e) (All-tail (AreKnown s) b bs k) h (All-tail (AreKnown s) a cs l) g in
      (ap suc t.0, t.1)

  pub one_place : {x : Expr} {p q : List ℕ} {m n : Name} {f g : TypeFault} → FirstUnknownAt s x p m f → FirstUnknownAt s x q n g
      → (p ≡ q) × (m ≡ n)
  one_place (NamesAt.unknown_itself k e u) (NamesAt.unknown_itself l i v) = (refl, same_name (sym e ∙ i))
  one_place (NamesAt.unknown_itself k e u) (NamesAt.unknown_in {y = z} after others i l h) =
      absurd (among_known after others z (subst (All (AreKnown s)) i k) (is_first h))
  one_place (NamesAt.unknown_in {y = y} before rest e k h) (NamesAt.unknown_itself l i v) =
      absurd (among_known before rest y (subst (All (AreKnown s)) e l) (is_first h))
  one_place (NamesAt.unknown_in {y = y} {p = p} before rest e k h) (NamesAt.unknown_in {y = z} {p = q} {n = n} {f = g} after others i l j) =
      let t = one_split before rest after others y z (sym e ∙ i) k (is_first h) l (is_first j) in
      let r = one_place h (subst (λ w. FirstUnknownAt s w q n g) (sym t.1) j) in
      (ap (λ o. o ∷ p) t.0 ∙ ap (λ o. length after ∷ o) r.0, r.1)
