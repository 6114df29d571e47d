-- Defines the contracts of the typing functions: which results are a type with the gained capabilities, or an error of
-- typing. A result `NoMemory` meets each of them, except `IsRow` and `IsBranch`. Below, expressions are typed in the
-- environment `env`, where the capabilities `K` are known. `after` are the capabilities on the stack afterwards.
use Rattle.std.specs.Prelude.{◌≡◌, ◌≢◌, ◌⊎◌, List, [], ◌∷◌, ◌++◌, map, Vec, Result, Ok, Err, MatchResult}
use Rattle.grammar_core.specs.declared.operator.UnaryCall.{UnaryCall}
use Rattle.grammar_core.specs.declared.expr.Expr.{Expr}
use Rattle.grammar_core.specs.declared.expr.Expr.TheVariants as form
use Rattle.typing.specs.Types.{StaticType, true_type, false_type, boolean_type}
use Rattle.typing.specs.evaluator.Operators.{TakesAddress}
use Rattle.typing.specs.Environment.{Environment}
use Rattle.typing.specs.Gained as gained
use Rattle.typing.specs.Gained.{CapabilityList, has_gains}
use Rattle.typing.specs.Literals.{ReadsLiteral, TakesText}
use Rattle.typing.specs.Rows.{address_test_type, set_literal_type}
use Rattle.typing.specs.Typing.{Types, TypesEach}
use Rattle.typing.specs.Faults.{Faults, FaultsEach}
use Rattle.type_checker.specs.Views.{static_view}
use Rattle.type_checker.specs.declared.static_type.StaticType as built
use Rattle.typing.specs.declared.fault.TypeFault.{TypeFault}
use Rattle.typing.specs.declared.fault.TypeFault.TheVariants.{NoMemory, BadExtensionLiteral}
use Rattle.type_capabilities.specs.declared.capability.Capability.{Capability}
use Rattle.type_checker.specs.declared.typed.Typed.{Typed}
use Rattle.type_checker.specs.declared.typed.Then.{Then}
use Rattle.type_checker.specs.declared.typed.Then.TheVariants as then
use Rattle.type_capabilities.specs.CapabilityList.{capabilities}
use Rattle.std.specs.declared.alloc.Global.{Global}

-- `Judged env K x r after` holds if `r` is the type of `x` with the capabilities that it gains, and `after` is `K`; or
-- if `r` is the error of `x`.
abbrev pub Judged : Environment → CapabilityList → Expr → Result Typed TypeFault → CapabilityList → Type 0
Judged env K x r after =
    MatchResult r (λ t. (after ≡ K) × Types env K x (static_view t.kind) (capabilities t.gains.items))
    (λ f. f ≢ NoMemory → Faults env K x f)

-- `JudgedUnder env K L x r after` holds if `r` is the type of `x` with the capabilities `L` and then those that `x`
-- gains, and `after` is `K`; or if `r` is the error of `x`. Here the capabilities `K` and then `L` are known.
abbrev pub JudgedUnder : Environment → CapabilityList → CapabilityList → Expr → Result Typed TypeFault
    → CapabilityList → Type 0
JudgedUnder env K L x r after =
    MatchResult r (λ t. (after ≡ K) × ((M : CapabilityList) × Types env (K ++ L) x (static_view t.kind) M
    × (capabilities t.gains.items ≡ L ++ M)))
    (λ f. f ≢ NoMemory → Faults env (K ++ L) x f)

-- `JudgedEach env K xs r after` holds if `r` has the types of the expressions `xs`, in order, and `after` is `K`; or if
-- `r` is the error of the first expression that has one.
abbrev pub JudgedEach : Environment → CapabilityList → List Expr
    → Result (Vec built.StaticType Global) TypeFault → CapabilityList → Type 0
JudgedEach env K xs r after =
    MatchResult r (λ ts. (after ≡ K) × TypesEach env K xs (map static_view ts.items))
    (λ f. f ≢ NoMemory → FaultsEach env K xs f)

-- `IsNext env K x ts us` holds if `us` are the types `ts`, followed by the type of `x`.
abbrev pub IsNext : Environment → CapabilityList → Expr → List built.StaticType → List built.StaticType → Type 0
IsNext env K x ts us =
    (t : StaticType) × (L : CapabilityList) × Types env K x t L × (map static_view us ≡ map static_view ts ++ t ∷ [])

-- `MembersHave env K xs ts` holds if a set literal whose members have the types `ts` has the type or error of the set
-- literal with the members `xs`. A member that repeats the previous one needs no type in `ts`.
abbrev pub MembersHave : Environment → CapabilityList → List Expr → List StaticType → Type 0
MembersHave env K xs ts =
    (us : List StaticType) × TypesEach env K xs us × (set_literal_type us ≡ set_literal_type ts)

-- `JudgedMembers env K xs r after` holds if `r` has types that the members `xs` have by `MembersHave`, and `after` is
-- `K`; or if `r` is the error of the first member that has one.
abbrev pub JudgedMembers : Environment → CapabilityList → List Expr
    → Result (Vec built.StaticType Global) TypeFault → CapabilityList → Type 0
JudgedMembers env K xs r after =
    MatchResult r (λ ts. (after ≡ K) × MembersHave env K xs (map static_view ts.items))
    (λ f. f ≢ NoMemory → FaultsEach env K xs f)

-- `ThenTyped env K a b s t` holds if the test `a` has the type `s`, and `t` is the type of the branch `b`, with the
-- capabilities that `a` and then `b` gain.
abbrev pub ThenTyped : Environment → CapabilityList → Expr → Expr → StaticType → Typed → Type 0
ThenTyped env K a b s t =
    (L : CapabilityList) × (M : CapabilityList) × Types env K a s L × Types env (K ++ L) b (static_view t.kind) M
    × (capabilities t.gains.items ≡ L ++ M)

-- `ThenIs env K a b t` holds if `t` is the judgement on `if a then b`, which skips `b` if `a` has the type False.
abbrev pub ThenIs : Environment → CapabilityList → Expr → Expr → Then → Type 0
ThenIs env K a b then.Skipped = (L : CapabilityList) × Types env K a false_type L
ThenIs env K a b (then.Only t) = ThenTyped env K a b true_type t
ThenIs env K a b (then.Both t) = ThenTyped env K a b boolean_type t

-- `ThenJudged env K a b r after` holds if `r` is the judgement on `if a then b` (`ThenIs`), and `after` is `K`; or if
-- `r` is the error of each expression `if a then b else c`.
abbrev pub ThenJudged : Environment → CapabilityList → Expr → Expr → Result Then TypeFault → CapabilityList
    → Type 0
ThenJudged env K a b r after =
    MatchResult r (λ t. (after ≡ K) × ThenIs env K a b t)
    (λ f. f ≢ NoMemory → (c : Expr) → Faults env K (form.If a b c) f)

-- `IsRow row r` holds if `r` is the type of `row` without gained capabilities, or the error of `row`.
abbrev pub IsRow : Result built.StaticType TypeFault → Result Typed TypeFault → Type 0
IsRow row r = MatchResult r (λ t. (row ≡ Ok t.kind) × (t.gains.items ≡ [])) (λ f. row ≡ Err f)

-- `AddsGained L typed r` holds if `r` is `typed` with the capabilities `L` in front of those that it gains.
abbrev pub AddsGained : List Capability → Result Typed TypeFault → Result Typed TypeFault → Type 0
AddsGained L typed r =
    MatchResult r (λ t. (u : Typed) × (typed ≡ Ok u) × (t.kind ≡ u.kind) × (t.gains.items ≡ L ++ u.gains.items))
    (λ f. f ≢ NoMemory → typed ≡ Err f)

-- `IsBranch branch typed r` holds if `r` is `branch` of the type in `typed`, or the error in `typed`.
abbrev pub IsBranch : (Typed → Then) → Result Typed TypeFault → Result Then TypeFault → Type 0
IsBranch branch typed r = MatchResult r (λ b. (u : Typed) × (typed ≡ Ok u) × (b ≡ branch u)) (λ f. typed ≡ Err f)

-- `CallTyped called x s r` holds if `r` is the type or the error of the call `called` on `x`, which has the type `s`.
-- The calls of `ip` and `decimal` demand a string literal; a test of an IP address demands the type ipaddr.
abbrev pub CallTyped : UnaryCall → Expr → StaticType → Result built.StaticType TypeFault → Type 0
CallTyped called x s r =
    MatchResult r
    (λ t. ReadsLiteral called x (static_view t) ⊎ (TakesAddress called × (address_test_type s ≡ Ok (static_view t))))
    (λ f. f ≢ NoMemory →
    (TakesText called × ((t : StaticType) → ¬ ReadsLiteral called x t) × (f ≡ BadExtensionLiteral))
    ⊎ (TakesAddress called × (address_test_type s ≡ Err f)))

-- `IsHasRow p row r` holds if `r` is the type of `has` in `row`, with the capability `p` if `has` gains it, or the
-- error in `row`.
abbrev pub IsHasRow : gained.Capability → Result built.StaticType TypeFault
    → Result Typed TypeFault → Type 0
IsHasRow p row r =
    MatchResult r (λ t. (row ≡ Ok t.kind) × (capabilities t.gains.items ≡ has_gains (static_view t.kind) p))
    (λ f. f ≢ NoMemory → row ≡ Err f)
