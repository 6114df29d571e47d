-- The item at an index of a list, with those before it and those behind it.
use Rattle.std.specs.Prelude.{◌≡◌, ℕ, ◌+◌, ◌<◌, ◌≤◌, List, [], ◌∷◌, ◌++◌, length, take, drop, get_or, Option, Some, None, slice_get}
use Rattle.std.proofs.Common.{sym, ap, ◌∙◌, subst, inl, inr, arith}
use Rattle.std.proofs.lemmas.List.{take_more, drop_more, take-append-drop, length-take-le, take_all}
use Rattle.std.proofs.lemmas.Option.{slice_get_within, get_or_from_slice_get, slice_get_cases, slice_get_past}
use Rattle.grammar_core.specs.declared.expr.Expr.{Expr}
use Rattle.grammar_core.specs.declared.expr.Expr.TheOpen.{Expr-F}
use Rattle.grammar_core.specs.declared.expr.Expr.TheViews.{out-Expr}
use Rattle.std.specs.Borrow.{Bor}
use Rattle.typing.specs.Places.{IsAt, operands_in, operands_of, follow, and_then}

module _ {X : Type 0} (xs : List X) (i : ℕ) (y : X) (e : slice_get xs i ≡ Some y) where
  pub within : i < length xs
  within = slice_get_within xs i y e

  item_is : get_or xs i y ≡ y
  item_is = get_or_from_slice_get xs i y y e

  -- those before it, it, and those behind it
  pub parted : xs ≡ take i xs ++ y ∷ drop (i + 1) xs
  parted =
      sym (take-append-drop i xs)
      ∙ (ap (λ ys. take i xs ++ ys) (drop_more xs i y within) ∙ ap (λ z. take i xs ++ z ∷ drop (i + 1) xs) item_is)

  pub grown : take (i + 1) xs ≡ take i xs ++ y ∷ []
  grown = take_more xs i y within ∙ ap (λ z. take i xs ++ z ∷ []) item_is

  pub as_many : length (take i xs) ≡ i
  as_many = length-take-le i xs (omega (arith, within))

module _ {X : Type 0} (xs : List X) (i : ℕ) (e : slice_get xs i ≡ None) where
  pub past : length xs ≤ i
  past = elim (slice_get_cases xs i).1 [
    | inl h ↦ absurd (none_not_some (sym e ∙ h.2))
    | inr h ↦ h.0
  ]
    where
      none_not_some : {x : X} → None ≡ Some x → ⊥
      none_not_some f = cc

  pub all_taken : take i xs ≡ xs
  all_taken = take_all i xs past

-- ---- operands

-- of an expression that is this form
pub ops_at : (x y : Expr) (z : Expr-F Expr) (at : ℕ) (o : Option (Bor Expr)) → x ≡ y → out-Expr y ≡ z → IsAt (operands_in z) at o
    → IsAt (operands_of x) at o
ops_at x y z at o e f h = subst (λ w. IsAt (operands_in w) at o) (sym (ap out-Expr e ∙ f)) h

pub list_moved : (at : ℕ) (o : Option (Bor Expr)) {xs ys : List Expr} → xs ≡ ys → IsAt xs at o → IsAt ys at o
list_moved at o e h = subst (λ zs. IsAt zs at o) e h

pub one_moved : (at : ℕ) (o : Option (Bor Expr)) {a b : Expr} → a ≡ b → IsAt (a ∷ []) at o → IsAt (b ∷ []) at o
one_moved at o e h = list_moved at o (ap (λ x. x ∷ []) e) h

pub two_moved : (at : ℕ) (o : Option (Bor Expr)) {a b c d : Expr} → a ≡ c → b ≡ d → IsAt (a ∷ b ∷ []) at o → IsAt (c ∷ d ∷ []) at o
two_moved at o {a} {b} {c} {d} e f h =
    list_moved at o (ap (λ x. x ∷ d ∷ []) e) (list_moved at o (ap (λ y. a ∷ y ∷ []) f) h)

pub three_moved : (at : ℕ) (o : Option (Bor Expr)) {a b c d f g : Expr} → a ≡ d → b ≡ f → c ≡ g → IsAt (a ∷ b ∷ c ∷ []) at o
    → IsAt (d ∷ f ∷ g ∷ []) at o
three_moved at o {a} {b} {c} {d} {f} {g} e i j h =
    list_moved at o (ap (λ x. x ∷ f ∷ g ∷ []) e)
    (list_moved at o (ap (λ y. a ∷ y ∷ g ∷ []) i) (list_moved at o (ap (λ z. a ∷ b ∷ z ∷ []) j) h))

pub none_at : (x y : Expr) (z : Expr-F Expr) (at : ℕ) → x ≡ y → out-Expr y ≡ z → operands_in z ≡ [] → IsAt (operands_of x) at None
none_at x y z at e f n =
    ops_at x y z at None e f (subst (λ ys. slice_get ys at ≡ None) (sym n) (slice_get_past [] at (omega arith)))

-- ---- paths

followed : (p : List ℕ) (x : Expr) (o : Option Expr) (at : ℕ) → slice_get (operands_of x) at ≡ o
    → follow (at ∷ p) x ≡ and_then o (λ z. follow p z)
followed p x o at e = ap (λ q. and_then q (λ z. follow p z)) e

module _ (path : List ℕ) (i : ℕ) (lt : i < length path) (x : Expr) where
  pub follow_on : (y : Expr) → slice_get (operands_of x) (get_or path i 0) ≡ Some y → follow (drop i path) x ≡ follow (drop (i + 1) path) y
  follow_on y e = ap (λ p. follow p x) (drop_more path i 0 lt) ∙ followed (drop (i + 1) path) x (Some y) (get_or path i 0) e

  pub follow_ends : slice_get (operands_of x) (get_or path i 0) ≡ None → follow (drop i path) x ≡ None
  follow_ends e = ap (λ p. follow p x) (drop_more path i 0 lt) ∙ followed (drop (i + 1) path) x None (get_or path i 0) e
