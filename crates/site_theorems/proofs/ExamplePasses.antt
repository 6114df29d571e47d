-- The policy passes, and is true; without `has` it is rejected.
use Rattle.std.proofs.Common.{◌≡◌, ◌∙◌, ◌++◌, List, [], ◌∷◌, Bool, true, false, Ok, refl, sym, ap, subst, arith, zero}
use Rattle.std.proofs.Common.{suc}
use Rattle.std.proofs.lemmas.Int.{ints}
use Rattle.std.specs.Prelude.{Contains, All, IsFalse, codes, pos}
use Rattle.std.specs.Bool.{Decides}
use Rattle.std.proofs.lemmas.Bool.{false≢true}
use Rattle.values.specs.declared.entity_uid.EntityUid.{EntityUid}
use Rattle.values.specs.Values.{boolean, long}
use Rattle.values.specs.Fields.{Field}
use Rattle.site.specs.ancestor_search.Deciding.{Contains-here, Contains-none}
use Rattle.site.proofs.of_grammar_core.Forms.{fold_literal, fold_variable, fold_and, fold_binary, fold_field}
use Rattle.site.proofs.of_grammar_core.Forms.{fold_has}
use Rattle.site.specs.grammar_core.declared.leaf.Literal.TheVariants as literal
use Rattle.site.specs.grammar_core.declared.leaf.Variable.TheVariants as variable
use Rattle.site.specs.grammar_core.declared.operator.Binary.{Binary}
use Rattle.site.specs.grammar_core.declared.operator.Binary.TheVariants as binary
use Rattle.site.specs.grammar_core.declared.expr.Expr.{Expr}
use Rattle.site.specs.grammar_core.declared.expr.Expr.TheVariants as form
use Rattle.site.specs.policy_grammar.PolicyExpression.{truth, entity_literal, is_equal, expression_of}
use Rattle.site.specs.evaluator.Outcomes.{holds}
use Rattle.site.specs.evaluator_steps.Attributes as stored
use Rattle.site.specs.evaluator.Operators as operator
use Rattle.site.specs.evaluator.Evaluation
use Rattle.site.specs.evaluator.Evaluation.{EvaluatesTo}
use Rattle.site.specs.entity_hierarchy.Laws.{closed_world}
use Rattle.site.specs.type_checker.FromSchemas.{typing_environment_of}
use Rattle.site.specs.typing.Types
use Rattle.site.specs.typing.Types.{StaticType, boolean_type, true_type}
use Rattle.site.specs.typing.Environment.{Environment}
use Rattle.site.specs.typing.declared.fault.TypeFault.TheVariants.{AttributeMayBeMissing}
use Rattle.site.specs.typing.Gained.{Capability, CapabilityList}
use Rattle.site.specs.typing.Literals.{UndecidedByLiterals}
use Rattle.site.specs.typing.Literals
use Rattle.site.specs.typing.Rows
use Rattle.site.specs.typing.Typing
use Rattle.site.specs.typing.Typing.{Types}
use Rattle.site.specs.typing.Faults
use Rattle.site.specs.typing.Faults.{Faults}
use Rattle.site.specs.typing.Example.{view, age_of_principal, has_age, is_aged}
use Rattle.site.specs.validator.Names.{Name, entity, names_step, names_in, names_of}
use Rattle.site.specs.validator.Names
use Rattle.site.specs.validator.Unknown
use Rattle.site.specs.validator.Unknown.{IsUnknown, IsKnown}
use Rattle.site.specs.validator.Passing.{Passes, IsCheckRefused, FirstFaulty, HasBooleanType}
use Rattle.site.specs.validator.Passing
use Rattle.site_theorems.specs.Example.{schema, viewing, entities, request, policy, unsure_policy}
use Rattle.site_theorems.specs.ExamplePremises.{ExamplePolicyPasses, UnguardedAccessIsRejected}

abbrev env : Environment
env = typing_environment_of schema viewing

-- the part of the action, `action == Action::"view"`, which literals settle
abbrev action_part : Expr
action_part = is_equal variable.Action view

-- ---- names

and_names : (a b : Expr) (ms ns : List Name) → names_in a ≡ ms → names_in b ≡ ns → names_in (form.And a b) ≡ ms ++ ns
and_names a b ms ns e f = fold_and (List Name) names_step a b ∙ (ap (λ (l : List Name). l ++ names_in b) e ∙ ap (λ (l : List Name). ms ++ l) f)

binary_names : (op : Binary) (a b : Expr) (ms ns : List Name) → names_in a ≡ ms → names_in b ≡ ns → names_in (form.Binary op a b) ≡ ms ++ ns
binary_names op a b ms ns e f = fold_binary (List Name) names_step op a b ∙ (ap (λ (l : List Name). l ++ names_in b) e ∙ ap (λ (l : List Name). ms ++ l) f)

truth_names : names_in truth ≡ []
truth_names = fold_literal (List Name) names_step (literal.Boolean true)

principal_names : names_in (form.Variable variable.Principal) ≡ []
principal_names = fold_variable (List Name) names_step variable.Principal

action_names : names_in action_part ≡ entity view ∷ []
action_names =
    binary_names binary.Equal (form.Variable variable.Action) (entity_literal view) [] (entity view ∷ [])
    (fold_variable (List Name) names_step variable.Action) (fold_literal (List Name) names_step (literal.Entity view))

has_names : names_in has_age ≡ []
has_names = fold_has (List Name) names_step (form.Variable variable.Principal) (codes "age") ∙ principal_names

aged_names : names_in is_aged ≡ []
aged_names =
    binary_names binary.Less (form.Literal (literal.Long (pos 0))) (form.Field (form.Variable variable.Principal) (codes "age")) [] []
    (fold_literal (List Name) names_step (literal.Long (pos 0)))
    (fold_field (List Name) names_step (form.Variable variable.Principal) (codes "age") ∙ principal_names)

-- the names of a policy with this scope
names_with : (condition : Expr) → names_in condition ≡ []
    → names_in (form.And truth (form.And action_part (form.And truth condition))) ≡ entity view ∷ []
names_with condition e =
    and_names truth _ [] (entity view ∷ []) truth_names
    (and_names action_part _ (entity view ∷ []) [] action_names (and_names truth condition [] [] truth_names e))

named_entity : Name → EntityUid
named_entity (Names.tested_type n) = view
named_entity (Names.entity u) = u

is_entity : Name → Bool
is_entity (Names.tested_type n) = false
is_entity (Names.entity u) = true

view_known : (n : Name) → entity view ≡ n → IsKnown schema n
unfolding named_entity is_entity
view_known n e f (Unknown.unknown_tested_type m no_type no_action) = false≢true (sym (ap is_entity e))
view_known n e f (Unknown.unknown_type u plain no_type) =
    let is : view ≡ u = ap named_entity e in
    false≢true (sym (subst (λ (x : EntityUid). IsFalse (env.is_action_type x.type_name)) (sym is) plain))
view_known n e f (Unknown.unknown_action u action no_action) =
    let is : view ≡ u = ap named_entity e in
    no_action (subst (λ (x : EntityUid). Contains (view ∷ []) x) is (Contains-here view []))

one_all : {X : Type 0} (P : X → Type 0) (x : X) → P x → All P (x ∷ [])
one_all P x h zero d lt = h
one_all P x h (suc k) d lt = absurd (omega arith)

all_known : (ns : List Name) → ns ≡ entity view ∷ [] → All (IsKnown schema) ns
all_known ns e = subst (λ (l : List Name). All (IsKnown schema) l) (sym e) (one_all (IsKnown schema) (entity view) (view_known (entity view) refl))

-- ---- types

truth_typed : Types env [] truth true_type []
truth_typed = Typing.types_literal (literal.Boolean true)

action_typed : Types env [] action_part true_type []
action_typed =
    Typing.types_decided binary.Equal (form.Variable variable.Action) (entity_literal view)
    (Literals.equal_literals Literals.action Literals.stated ((λ e. refl), (λ e. refl)))

unsettled : (a b : Expr) → UndecidedByLiterals env binary.Less a b
unsettled a b r s = elim s [ ]

nothing_known : (p : Capability) → Decides false (Contains [] p)
nothing_known p = ((λ e. absurd (false≢true e)), (λ c. Contains-none p c))

age_known : Decides true (Contains (age_of_principal ∷ []) age_of_principal)
age_known = ((λ e. Contains-here age_of_principal []), (λ c. refl))

principal_typed : (K : CapabilityList) → Types env K (form.Variable variable.Principal) (Types.entity_type (codes "User")) []
principal_typed K = Typing.types_variable variable.Principal

has_typed : Types env [] has_age boolean_type (age_of_principal ∷ [])
has_typed = Typing.types_has (form.Variable variable.Principal) (codes "age") (principal_typed []) (nothing_known _) refl

aged_typed : Types env (age_of_principal ∷ []) is_aged boolean_type []
aged_typed =
    Typing.types_binary binary.Less (form.Literal (literal.Long (pos 0))) (form.Field (form.Variable variable.Principal) (codes "age")) (unsettled _ _)
    (Typing.types_literal (literal.Long (pos 0)))
    (Typing.types_field (form.Variable variable.Principal) (codes "age") (principal_typed _) age_known refl) refl

policy_typed : Types env [] (expression_of policy) boolean_type (age_of_principal ∷ [])
policy_typed =
    Typing.and_of_both truth _ truth_typed Rows.surely
    (Typing.and_of_both action_part _ action_typed Rows.surely
    (Typing.and_of_both truth _ truth_typed Rows.surely
    (Typing.and_of_both has_age is_aged has_typed Rows.perhaps aged_typed Types.is_either) Types.is_either) Types.is_either) Types.is_either

passes : Passes schema policy
passes = record {
  known = all_known (names_of policy) (names_with (form.And has_age is_aged) (and_names has_age is_aged [] [] has_names aged_names));
  typed = one_all (HasBooleanType (expression_of policy)) env (boolean_type, Types.is_either, (age_of_principal ∷ [], policy_typed));
}

aged_faulty : Faults env [] is_aged AttributeMayBeMissing
aged_faulty =
    Faults.fault_in_operand (Faults.of_binary binary.Less (form.Literal (literal.Long (pos 0))) (form.Field (form.Variable variable.Principal) (codes "age")) (unsettled _ _))
    (Faults.fault_later (Typing.types_literal (literal.Long (pos 0)))
    (Faults.fault_here (Faults.fault_of_field (form.Variable variable.Principal) (codes "age") (principal_typed []) (nothing_known _) refl)))

pub something_is_refused : UnguardedAccessIsRejected
something_is_refused =
    Passing.for_type (all_known (names_of unsure_policy) (names_with is_aged aged_names))
    (Passing.faulty_here
    (Faults.fault_right_of_and truth _ truth_typed Rows.surely
    (Faults.fault_right_of_and action_part _ action_typed Rows.surely
    (Faults.fault_right_of_and truth _ truth_typed Rows.surely aged_faulty))))

-- ---- what it gives

abbrev gives : Expr → Bool → Type 0
gives x b = EvaluatesTo (closed_world schema entities) request x (Ok (boolean b))

truth_given : gives truth true
truth_given = Evaluation.gives_literal (literal.Boolean true)

action_given : gives action_part true
action_given =
    Evaluation.gives_binary binary.Equal (form.Variable variable.Action) (entity_literal view) (Evaluation.gives_variable variable.Action)
    (Evaluation.gives_literal (literal.Entity view)) (operator.equal (holds refl))

abbrev fields : List Field
fields = (codes "age", long (pos 30)) ∷ []

has_given : gives has_age true
has_given =
    Evaluation.gives_has (form.Variable variable.Principal) (codes "age") (Evaluation.gives_variable variable.Principal)
    (operator.has_attribute fields refl (holds refl))

aged_given : gives is_aged true
aged_given =
    Evaluation.gives_binary binary.Less (form.Literal (literal.Long (pos 0))) (form.Field (form.Variable variable.Principal) (codes "age"))
    (Evaluation.gives_literal (literal.Long (pos 0)))
    (Evaluation.gives_field (form.Variable variable.Principal) (codes "age") (Evaluation.gives_variable variable.Principal) (operator.of_entity (stored.attribute fields refl refl)))
    (operator.of_numbers (holds (omega (arith, ints))))

policy_given : gives (expression_of policy) true
policy_given =
    Evaluation.and_true truth _ truth_given
    (Evaluation.and_true action_part _ action_given
    (Evaluation.and_true truth _ truth_given (Evaluation.and_true has_age is_aged has_given aged_given)))

pub something_passes : ExamplePolicyPasses
something_passes = (passes, policy_given)
