-- The fault that is told.
use Rattle.std.proofs.Common.{◌≡◌, zero, suc, ◌<◌, ◌≤◌, Bool, true, false, List, [], ◌∷◌, Option, Some, None, nat_lt, if◌then◌else◌, refl, sym, subst, arith}
use Rattle.std.specs.Prelude.{Contains}
use Rattle.std.proofs.lemmas.Bool.{ltb-true, ltb-false}
use Rattle.plain.proofs.Members.{Contains-here, Contains-there}
use Rattle.grammar_desugaring.specs.declared.fault.DesugarFault.{DesugarFault}
use Rattle.grammar_desugaring.specs.ReportedErrors.{at, earlier_of, least, IsLeastOf, LeastIsLeast, NoneOfNone}

is_some : (x : DesugarFault) (o : Option DesugarFault) → earlier_of (Some x) o ≡ None → ⊥
is_some x None none = absurd (cc)
is_some x (Some y) none = absurd (cc)

pub none_of_none : NoneOfNone
none_of_none [] none = refl
none_of_none (x ∷ xs) none = absurd (is_some x (least xs) none)

-- P of each
each : (P : DesugarFault → Type 0) (x : DesugarFault) (xs : List DesugarFault) → P x → ((y : DesugarFault) → Contains xs y → P y) → (y : DesugarFault) → Contains (x ∷ xs) y → P y
each P x xs first rest y (zero, below, is) = subst P is first
each P x xs first rest y (suc i, below, is) = rest y (i, omega (arith, below), is)

chosen : (x g : DesugarFault) (xs : List DesugarFault) (b : Bool) → nat_lt (at g) (at x) ≡ b → IsLeastOf xs g → IsLeastOf (x ∷ xs) (if b then g else x)
chosen x g xs true less rest = record {
  here = Contains-there x xs g rest.here;
  first = each (λ y. at g ≤ at y) x xs (let low : at g < at x = ltb-true (at g) (at x) less in omega (arith, low)) rest.first;
}
chosen x g xs false more rest = record {
  here = Contains-here x xs;
  first = each (λ y. at x ≤ at y) x xs (omega arith) (λ y c. let low : at g ≤ at y = rest.first y c in let high : at x ≤ at g = ltb-false (at g) (at x) more in omega (arith, high, low));
}

some_same : {x y : DesugarFault} → Some x ≡ Some y → x ≡ y
some_same e = cc

mutual_step : (x f : DesugarFault) (xs : List DesugarFault) (o : Option DesugarFault) → least xs ≡ o → ((g : DesugarFault) → least xs ≡ Some g → IsLeastOf xs g) →
    earlier_of (Some x) o ≡ Some f → IsLeastOf (x ∷ xs) f
mutual_step x f xs None is rest told =
    let empty : xs ≡ [] = none_of_none xs is in
    subst (IsLeastOf (x ∷ xs)) (some_same told)
    (subst (λ ys. IsLeastOf (x ∷ ys) x) (sym empty) (record { here = Contains-here x []; first = each (λ y. at x ≤ at y) x [] (omega arith) (λ y c. absurd (omega (arith, c.1))) }))
mutual_step x f xs (Some g) is rest told = subst (IsLeastOf (x ∷ xs)) (some_same told) (chosen x g xs (nat_lt (at g) (at x)) refl (rest g is))

pub least_is_least : LeastIsLeast
least_is_least [] fault told = absurd (cc)
least_is_least (x ∷ xs) fault told = mutual_step x fault xs (least xs) refl (λ g is. least_is_least xs g is) told
