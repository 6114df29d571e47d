-- Defines the core expression of a policy's conditions, and their errors. In each definition `text` is the text that
-- the conditions' tokens are in.
-- Source: Cedar reference guide 4.0, "Basic policy construction" (conditions); cedar-spec,
-- cedar-lean/Cedar/Spec/Policy.lean (`Condition.toExpr`).
-- Rules of this product: conditions are joined by `&&`, grouped to the right; without conditions the expression is
-- `true`.
use Rattle.std.specs.Prelude.{ℕ, List, [], ◌∷◌, map}
use Rattle.std.specs.List.{flat_map}
use Rattle.grammar_core.specs.declared.operator.Unary.TheVariants.{Not}
use Rattle.grammar_core.specs.declared.expr.Expr.{Expr}
use Rattle.grammar_core.specs.declared.expr.Expr.TheVariants as core
use Rattle.grammar_parsing.specs.declared.tree.Condition.{Condition}
use Rattle.grammar_parsing.specs.declared.tree.ConditionWord.{ConditionWord}
use Rattle.grammar_parsing.specs.declared.tree.ConditionWord.TheVariants as word
use Rattle.grammar_desugaring.specs.declared.fault.DesugarFault.{DesugarFault}
use Rattle.grammar_desugaring.specs.Core.{core_of}
use Rattle.grammar_desugaring.specs.Faults.{faults_of}
use Rattle.policy_grammar.specs.PolicyExpression.{truth}

-- `condition_expression word e` is the expression that the keyword `word` makes of `e`: `e` for `when { e }`, and `!e`
-- for `unless { e }`.
abbrev pub condition_expression : ConditionWord → Expr → Expr
condition_expression word.When e = e
condition_expression word.Unless e = core.Unary Not e

-- `condition_of text c` is the core expression of the condition `c`.
abbrev pub condition_of : List ℕ → Condition → Expr
condition_of text c = condition_expression c.word (core_of text c.expression)

-- `joined es` is the conjunction of `es`, grouped to the right: `e && (f && ..)`; it is `true` if `es` is empty.
abbrev pub joined : List Expr → Expr
joined [] = truth
joined (e ∷ []) = e
joined (e ∷ (f ∷ es)) = core.And e (joined (f ∷ es))

-- `conditions_of text conditions` is the core expression of the conditions `conditions` of a policy.
abbrev pub conditions_of : List ℕ → List Condition → Expr
conditions_of text conditions = joined (map (condition_of text) conditions)

-- `condition_faults text conditions` are the errors of the conditions `conditions` of a policy, in order.
abbrev pub condition_faults : List ℕ → List Condition → List DesugarFault
condition_faults text = flat_map (λ c. faults_of text c.expression)
