-- Defines the theorems that each expression has one judgement, and that typing is sound.
use Rattle.std.specs.Prelude.{◌≡◌, ◌≢◌, ℕ, List, [], ◌∷◌, Contains, IsTrue, IsFalse, Bool, true, Ok}
use Rattle.values.specs.declared.entity_uid.EntityUid.{EntityUid}
use Rattle.values.specs.declared.request.Request.{Request}
use Rattle.values.specs.Values.{boolean}
use Rattle.evaluator.specs.ancestor_search.Hierarchy.{Parents, IsAncestor}
use Rattle.evaluator.specs.ancestor_search.Decided.{Decides, HaveAllParents}
use Rattle.grammar_core.specs.declared.expr.Expr.{Expr}
use Rattle.grammar_core.specs.declared.expr.Expr.TheVariants as form
use Rattle.evaluator.specs.Outcomes.{EvaluationResult}
use Rattle.evaluator.specs.Operators.{Entities}
use Rattle.evaluator.specs.Evaluation.{EvaluatesTo}
use Rattle.typing.specs.Types.{StaticType, false_type, boolean_type, IsBoolean}
use Rattle.typing.specs.Environment.{Environment}
use Rattle.typing.specs.declared.fault.TypeFault.{TypeFault}
use Rattle.typing.specs.declared.fault.TypeFault.TheVariants.{AttributeMayBeMissing}
use Rattle.typing.specs.Gained.{Capability, CapabilityList}
use Rattle.typing.specs.Ordered.{IsOrdered, HasOrderedTypes}
use Rattle.typing.specs.Typing.{Types}
use Rattle.typing.specs.Faults.{Faults}
use Rattle.typing.specs.Judgement.{Judgement, Judges}
use Rattle.typing.specs.Example.{environment, world, request, parents, alice, view, age_of_principal, has_age, is_aged}
use Rattle.typing.specs.Conforming.{Conforms, Fits, ArePresent, IsSoundOutcome}

-- `HaveOneJudgement`: whatever capabilities are known, each expression has exactly one judgement: a type with the
-- capabilities that it gains, or an error.
abbrev pub HaveOneJudgement : Type 0
HaveOneJudgement = (env : Environment) (K : CapabilityList) (x : Expr)
    → (r : Judgement) × Judges env K x r × ((s : Judgement) → Judges env K x s → s ≡ r)

-- `AreSameCapabilities K M` holds if `K` and `M` have the same capabilities.
pub record AreSameCapabilities (K M : CapabilityList) : Type 0 where
  pub there : (p : Capability) → Contains K p → Contains M p
  pub back : (p : Capability) → Contains M p → Contains K p

-- `CapabilitiesAreASet`: judgements depend on the known capabilities only as a set. Whatever their order and repeats,
-- an expression has the same type or the same error, and gains the same set of capabilities.
abbrev pub CapabilitiesAreASet : Type 0
CapabilitiesAreASet = (env : Environment) (K M : CapabilityList) (x : Expr) → AreSameCapabilities K M
    → ((t : StaticType) (L : CapabilityList) → Types env K x t L → (N : CapabilityList) × AreSameCapabilities L N
    × Types env M x t N)
    × ((n : TypeFault) → Faults env K x n → Faults env M x n)

-- `TypesAreOrdered`: if the keys of record types ascend in the types of an environment, they ascend in the type of each
-- expression; so record types with the same keys have them in the same order.
abbrev pub TypesAreOrdered : Type 0
TypesAreOrdered = (env : Environment) → HasOrderedTypes env → (K L : CapabilityList) (x : Expr) (t : StaticType)
    → Types env K x t L → IsOrdered t

-- `AreSoundIn W` holds if typing is sound over the entity data `W`. Let a request and `W` conform to an environment,
-- and the fields of the known capabilities be present. Each outcome of an expression of type `t` is a value of `t` or a
-- permitted error. If the outcome is true, the fields of the gained capabilities are present.
abbrev pub AreSoundIn : Entities → Type 0
AreSoundIn W = (env : Environment) (q : Request) → Conforms env W q → (K L : CapabilityList) (x : Expr) (t : StaticType)
    → ArePresent W q K → Types env K x t L → (r : EvaluationResult) → EvaluatesTo W q x r → IsSoundOutcome W q t L r

-- `TypedIsSound`: typing is sound if a test decides the ancestor relation.
abbrev pub TypedIsSound : Type 0
TypedIsSound = (W : Entities) (ancestor_test : EntityUid → EntityUid → Bool) → Decides W.parents ancestor_test
    → AreSoundIn W

-- `TypedIsSoundInFiniteHierarchies`: typing is sound if finitely many entities have parents.
abbrev pub TypedIsSoundInFiniteHierarchies : Type 0
TypedIsSoundInFiniteHierarchies = (W : Entities) (stored : List EntityUid) → HaveAllParents W.parents stored
    → AreSoundIn W

-- `PoliciesAreSound`: let a test decide the ancestor relation of `W`, and let a request and `W` conform to an
-- environment. An expression that has a boolean type there, without known capabilities, gives only a boolean or a
-- permitted error. If its type is False, it never gives true.
abbrev pub PoliciesAreSound : Type 0
PoliciesAreSound = (W : Entities) (ancestor_test : EntityUid → EntityUid → Bool) → Decides W.parents ancestor_test
    → (env : Environment) (q : Request) → Conforms env W q → (x : Expr) (t : StaticType) (L : CapabilityList)
    → IsBoolean t
    → Types env [] x t L
    → (r : EvaluationResult) → EvaluatesTo W q x r → Fits boolean_type r × (t ≡ false_type → r ≢ Ok (boolean true))

-- `SomethingConforms`: the example conforms, and at most two entities in it have parents.
abbrev pub SomethingConforms : Type 0
SomethingConforms = Conforms environment world request × HaveAllParents parents (alice ∷ view ∷ [])

-- `SomethingIsTyped`: in the example, the age of the principal may be accessed in `principal has age && ..`.
abbrev pub SomethingIsTyped : Type 0
SomethingIsTyped = Types environment [] (form.And has_age is_aged) boolean_type (age_of_principal ∷ [])

-- `SomethingIsFaulty`: in the example, the age may not be accessed in `principal has age || ..`.
abbrev pub SomethingIsFaulty : Type 0
SomethingIsFaulty = Faults environment [] (form.Or has_age is_aged) AttributeMayBeMissing

-- `IsTransitive below` holds if `below` is transitive.
abbrev pub IsTransitive : (List ℕ → List ℕ → Bool) → Type 0
IsTransitive below = (l m n : List ℕ) → IsTrue (below l m) → IsTrue (below m n) → IsTrue (below l n)

-- `ParentsAreAllowed env parents` holds if the environment `env` allows the parents `parents` of each entity that is
-- not an action: no parent is an action, and the type of each may be an ancestor type of the entity's type.
abbrev pub ParentsAreAllowed : Environment → Parents → Type 0
ParentsAreAllowed env parents = (u p : EntityUid) → IsFalse (env.is_action_type u.type_name) → Contains (parents u) p
    → IsTrue (env.may_have_ancestor u.type_name p.type_name) × IsFalse (env.is_action_type p.type_name)

-- `ParentsDetermineAncestors`: let the parents of entities that are not actions be allowed, and the relation of
-- ancestor types be transitive. Then the types of all ancestors of such an entity are allowed.
abbrev pub ParentsDetermineAncestors : Type 0
ParentsDetermineAncestors = (env : Environment) (parents : Parents) → IsTransitive env.may_have_ancestor
    → ParentsAreAllowed env parents → (u a : EntityUid) → IsFalse (env.is_action_type u.type_name)
    → IsAncestor parents a u
    → IsTrue (env.may_have_ancestor u.type_name a.type_name)
