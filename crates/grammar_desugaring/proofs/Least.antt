-- The fault at the least place, of faults in a row.
use Rattle.std.proofs.Common.{◌≡◌, ℕ, List, [], ◌∷◌, ◌++◌, Option, Some, None, nat_lt, if◌then◌else◌, refl, ◌∙◌, ap, arith}
use Rattle.grammar_desugaring.specs.declared.fault.DesugarFault.{DesugarFault}
use Rattle.grammar_desugaring.specs.ReportedErrors.{at, earlier_of, least}

-- the same on any numbers, so that no fault is looked at
pick : {A : Type 0} → (A → ℕ) → A → A → A
pick place e f = if nat_lt (place f) (place e) then f else e

pick_assoc : {A : Type 0} (place : A → ℕ) (e f g : A) → pick place e (pick place f g) ≡ pick place (pick place e f) g
unfolding pick
pick_assoc place e f g = grind arith

pub earlier_none : (o : Option DesugarFault) → earlier_of o None ≡ o
earlier_none None = refl
earlier_none (Some e) = refl

pub earlier_assoc : (o p q : Option DesugarFault) → earlier_of o (earlier_of p q) ≡ earlier_of (earlier_of o p) q
unfolding pick
earlier_assoc None p q = refl
earlier_assoc (Some e) None q = refl
earlier_assoc (Some e) (Some f) None = refl
earlier_assoc (Some e) (Some f) (Some g) = ap Some (pick_assoc at e f g)

pick_same : {A : Type 0} (place : A → ℕ) (e : A) → pick place e e ≡ e
unfolding pick
pick_same place e = grind arith

pub earlier_same : (o p : Option DesugarFault) → earlier_of o (earlier_of o p) ≡ earlier_of o p
unfolding pick
earlier_same None p = refl
earlier_same (Some e) None = ap Some (pick_same at e)
earlier_same (Some e) (Some f) = ap Some (pick_assoc at e e f ∙ ap (λ x. pick at x f) (pick_same at e))

pub least-append : (xs ys : List DesugarFault) → least (xs ++ ys) ≡ earlier_of (least xs) (least ys)
least-append [] ys = refl
least-append (x ∷ xs) ys = ap (earlier_of (Some x)) (least-append xs ys) ∙ earlier_assoc (Some x) (least xs) (least ys)
