-- Members of a set, one after the other: one that repeats the one before is passed over.
use Rattle.std.proofs.Common.{◌≡◌, ◌∙◌, ◌+◌, ℕ, List, [], ◌∷◌, ◌++◌, map, take, drop, Option, Some, None, refl, sym}
use Rattle.std.proofs.Common.{subst, ap}
use Rattle.std.specs.Prelude.{IsSomeAnd, ⊤}
use Rattle.std.specs.Borrow.{Bor}
use Rattle.grammar_core.specs.declared.expr.Expr.{Expr}
use Rattle.typing.specs.Types as types
use Rattle.typing.specs.Environment.{Environment}
use Rattle.typing.specs.Gained.{CapabilityList}
use Rattle.typing.specs.Rows.{set_literal_type}
use Rattle.typing.specs.Typing as typing
use Rattle.typing.specs.Typing.{Types, TypesEach}
use Rattle.typing.specs.Faults.{Faults, FaultsEach}
use Rattle.type_checker.specs.Views.{static_view}
use Rattle.typing.specs.declared.fault.TypeFault.{TypeFault}
use Rattle.type_checker.specs.declared.static_type.StaticType.{StaticType}
use Rattle.type_checker.specs.inner.Judged.{IsNext}
use Rattle.type_checker.proofs.Each.{StandsAt, with_it, parted, each_more, each_stops}
use Rattle.type_checker.proofs.Repeating.{repeated, adding_alike}

-- the last of the types is that of the expression, where there is one
abbrev pub EndsWith : Environment → CapabilityList → Option (Bor Expr) → List types.StaticType → Type 0
EndsWith env K None us = ⊤
EndsWith env K (Some b) us =
    (vs : List types.StaticType) × (t : types.StaticType) × (L : CapabilityList) × (us ≡ vs ++ t ∷ []) × Types env K b.now t L

-- Members that were looked at, the last that was not passed over, and the types that were kept: a set of these has the
-- type that it has of all.
pub record SoFar (env : Environment) (K : CapabilityList) (xs : List Expr) (before : Option (Bor Expr)) (ts : List types.StaticType) : Type 0 where
  pub all : List types.StaticType
  pub typed : TypesEach env K xs all
  pub same : set_literal_type all ≡ set_literal_type ts
  pub last : EndsWith env K before all

module _ (env : Environment) (K : CapabilityList) where
  pub none_yet : (ts : List StaticType) → ts ≡ [] → SoFar env K [] None (map static_view ts)
  none_yet ts e = record {
    all = [];
    typed = typing.types_none;
    same = ap (λ us. set_literal_type (map static_view us)) (sym e);
    last = tt;
  }

  pub member_more : (xs : List Expr) (i : ℕ) (x : Expr) {o : Option (Bor Expr)} {b : Bor Expr} (ts us : List StaticType)
      → StandsAt xs i x → b.now ≡ x → SoFar env K (take i xs) o (map static_view ts) → IsNext env K x ts us
      → SoFar env K (take (i + 1) xs) (Some b) (map static_view us)
  member_more xs i x {b} ts us at e s (t, L, h, f) = record {
    all = s.all ++ t ∷ [];
    typed = subst (λ ys. TypesEach env K ys (s.all ++ t ∷ [])) (with_it xs i x at) (each_more env K s.typed h);
    same = adding_alike s.all (map static_view ts) t s.same ∙ ap set_literal_type (sym f);
    last = (s.all, t, L, refl, subst (λ y. Types env K y t L) (sym e) h);
  }

  pub member_again : (xs : List Expr) (i : ℕ) (x : Expr) (o : Option (Bor Expr)) (ts : List types.StaticType) → StandsAt xs i x
      → IsSomeAnd o (λ b. b.now ≡ x) → SoFar env K (take i xs) o ts → SoFar env K (take (i + 1) xs) o ts
  member_again xs i x None ts at e s = absurd e
  member_again xs i x (Some b) ts at e s =
      let l = s.last in
      record {
        all = s.all ++ l.1 ∷ [];
        typed = subst (λ ys. TypesEach env K ys (s.all ++ l.1 ∷ [])) (with_it xs i x at)
            (each_more env K s.typed (subst (λ y. Types env K y l.1 l.2) e l.4));
        same = ap (λ us. set_literal_type (us ++ l.1 ∷ [])) l.3
            ∙ (repeated l.0 l.1 ∙ (ap set_literal_type (sym l.3) ∙ s.same));
        last = (s.all, l.1, l.2, refl, l.4);
      }

  -- the first member that has no type stands at this place
  pub member_stops : (xs : List Expr) (i : ℕ) (x : Expr) {o : Option (Bor Expr)} (ts : List types.StaticType)
      (n : TypeFault) → StandsAt xs i x → SoFar env K (take i xs) o ts → Faults env K x n → FaultsEach env K xs n
  member_stops xs i x ts n at s h =
      subst (λ ys. FaultsEach env K ys n) (parted xs i x at) (each_stops env K (drop (i + 1) xs) s.typed h)
