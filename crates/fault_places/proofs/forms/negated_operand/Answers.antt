use Rattle.std.proofs.Common.{sym, ap, ◌∙◌}
use Rattle.grammar_syntax.specs.declared.tree.ExprTree.{out-ExprTree}
use Rattle.grammar_syntax.specs.declared.tree.ExprTree.TheVariants as t
use Rattle.fault_places.specs.Forms.{minus_operand}
use Rattle.fault_places.proofs.Opening.{minus_operand-other}
use Rattle.fault_places.proofs.forms.negated_operand.Goals as goal

pub returns-in-Number : goal.returns-in-Number
returns-in-Number c =
    ap (λ y. minus_operand y c.args.tree.now c.args.tokens.now c.args.index) (sym (ap out-ExprTree (sym c.deref.ensures ∙ c.in-Number.is) ∙ t.outs-Number c.in-Number.field-0))

pub returns-in_default : goal.returns-in_default
returns-in_default c =
    c.one_operand.ensures ∙ minus_operand-other c.args.tree.now c.args.tokens.now c.args.index (λ token e. c.in_default.not-Number token (c.deref.ensures ∙ e))
