-- What is judged of several, one after the other, and of one behind a stack of pairs.
use Rattle.std.proofs.Common.{◌≡◌, ◌<◌, ◌+◌, ◌++◌, ℕ, List, [], ◌∷◌, map, length, get_or, take, drop, Result, Ok, Err}
use Rattle.std.proofs.Common.{sym, subst, ap, ◌∙◌}
use Rattle.std.proofs.lemmas.List.{drop_more, take_more, take-append-drop, map-append}
use Rattle.grammar_core.specs.declared.expr.Expr.{Expr}
use Rattle.typing.specs.Types as types
use Rattle.typing.specs.Environment.{Environment}
use Rattle.typing.specs.Gained.{CapabilityList}
use Rattle.typing.specs.Typing as typing
use Rattle.typing.specs.Typing.{Types, TypesEach}
use Rattle.typing.specs.Faults as faults
use Rattle.typing.specs.Faults.{Faults, FaultsEach}
use Rattle.type_checker.specs.Views.{static_view}
use Rattle.type_checker.specs.declared.static_type.StaticType.{StaticType}
use Rattle.typing.specs.declared.fault.TypeFault.{TypeFault}
use Rattle.type_capabilities.specs.declared.capability.Capability.{Capability}
use Rattle.type_checker.specs.declared.typed.Typed.{Typed}
use Rattle.type_capabilities.specs.CapabilityList.{capability_of, capabilities}
use Rattle.type_checker.specs.inner.Judged.{Judged, JudgedUnder, AddsGained, IsNext}
use Rattle.type_checker.proofs.Learning.{back_again}
use Rattle.type_checker.proofs.Carrying.{typed_so, faulty_so}

-- ---- the item at a place of a list

abbrev pub StandsAt : {X : Type 0} → List X → ℕ → X → Type 0
StandsAt xs i x = (i < length xs) × (x ≡ get_or xs i x)

pub stands_at : {X : Type 0} {ys xs : List X} {i : ℕ} {x : X} → ys ≡ xs → i < length ys → x ≡ get_or ys i x → StandsAt xs i x
stands_at {i} {x} e lt h = subst (λ zs. StandsAt zs i x) e (lt, h)

-- those before it and it
pub with_it : {X : Type 0} (xs : List X) (i : ℕ) (x : X) → StandsAt xs i x → take i xs ++ x ∷ [] ≡ take (i + 1) xs
with_it xs i x at = ap (λ y. take i xs ++ y ∷ []) at.1 ∙ sym (take_more xs i x at.0)

-- those before it, it and those behind it
pub parted : {X : Type 0} (xs : List X) (i : ℕ) (x : X) → StandsAt xs i x → take i xs ++ x ∷ drop (i + 1) xs ≡ xs
parted xs i x at =
    ap (λ y. take i xs ++ y ∷ drop (i + 1) xs) at.1
    ∙ (ap (λ ys. take i xs ++ ys) (sym (drop_more xs i x at.0)) ∙ take-append-drop i xs)

-- ---- what is judged of several

module _ (env : Environment) (K : CapabilityList) where
  pub each_more : {xs : List Expr} {ts : List types.StaticType} {x : Expr} {t : types.StaticType} {L : CapabilityList}
      → TypesEach env K xs ts → Types env K x t L → TypesEach env K (xs ++ x ∷ []) (ts ++ t ∷ [])
  each_more typing.types_none h = typing.types_more h typing.types_none
  each_more (typing.types_more g gs) h = typing.types_more g (each_more gs h)

  pub each_stops : {xs : List Expr} {ts : List types.StaticType} {x : Expr} {n : TypeFault} (ys : List Expr)
      → TypesEach env K xs ts → Faults env K x n → FaultsEach env K (xs ++ x ∷ ys) n
  each_stops ys typing.types_none h = faults.fault_here h
  each_stops ys (typing.types_more g gs) h = faults.fault_later g (each_stops ys gs h)

  -- one type more is put behind those of several
  pub put_so : {x : Expr} {L : CapabilityList} (ts us : List StaticType) (k : StaticType) → Types env K x (static_view k) L
      → us ≡ ts ++ k ∷ [] → IsNext env K x ts us
  put_so {L} ts us k h e = (static_view k, L, h, ap (map static_view) e ∙ map-append static_view ts (k ∷ []))

  -- the first of several that has no type stands at this place
  pub stops_at : {X : Type 0} (value : X → Expr) (xs : List X) (i : ℕ) (x : X) (ts : List types.StaticType)
      (n : TypeFault) → StandsAt xs i x → TypesEach env K (map value (take i xs)) ts
      → Faults env K (value x) n → FaultsEach env K (map value xs) n
  stops_at value xs i x ts n at g h =
      subst (λ ys. FaultsEach env K ys n)
      (sym (map-append value (take i xs) (x ∷ drop (i + 1) xs)) ∙ ap (map value) (parted xs i x at))
      (each_stops (map value (drop (i + 1) xs)) g h)

  -- one more of several
  pub goes_on : {X : Type 0} (value : X → Expr) (xs : List X) (i : ℕ) (x : X) (ts us : List StaticType)
      → StandsAt xs i x → TypesEach env K (map value (take i xs)) (map static_view ts) → IsNext env K (value x) ts us
      → TypesEach env K (map value (take (i + 1) xs)) (map static_view us)
  goes_on value xs i x ts us at g (t, L, h, e) =
      subst (λ vs. TypesEach env K (map value (take (i + 1) xs)) vs) (sym e)
      (subst (λ ys. TypesEach env K ys (map static_view ts ++ t ∷ []))
      (sym (map-append value (take i xs) (x ∷ [])) ∙ ap (map value) (with_it xs i x at)) (each_more g h))

-- one behind pairs that were put on top of those that were known
pub behind_judged : (env : Environment) (x : Expr) (K : CapabilityList) (ls : List Capability) (M : CapabilityList) (typed r : Result Typed TypeFault)
    → Judged env (K ++ capabilities ls) x typed M → AddsGained ls typed r
    → JudgedUnder env K (capabilities ls) x r (take (length K) M)
behind_judged env x K ls M typed (Ok t) h (u, e, k, l) =
    let s = typed_so env (K ++ capabilities ls) M x e h in (
      back_again K (capabilities ls) M s.0,
      (
        capabilities u.gains.items,
        subst (λ y. Types env (K ++ capabilities ls) x (static_view y) (capabilities u.gains.items)) (sym k) s.1,
        ap capabilities l ∙ map-append capability_of ls u.gains.items,
      ),
    )
behind_judged env x K ls M typed (Err f) h e = λ n. faulty_so env (K ++ capabilities ls) M x (e n) h n
