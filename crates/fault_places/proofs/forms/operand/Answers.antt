use Rattle.std.proofs.Common.{ap, ◌∙◌, drop}
use Rattle.grammar_syntax.specs.declared.tree.ExprTree.{out-ExprTree}
use Rattle.grammar_syntax.specs.declared.tree.ExprTree.TheVariants as t
use Rattle.grammar_syntax.specs.declared.tree.ExprTree.TheOpen.{ExprTree-F as tree}
use Rattle.fault_places.specs.Forms.{form_of, row_at, entry_at, only_operand_at, minus_operand, compared_at}
use Rattle.fault_places.proofs.Opening.{seen, seen-chain, seen-postfix, operand-leaf}
use Rattle.fault_places.proofs.forms.operand.Goals as goal

pub returns-in-Call : goal.returns-in-Call
returns-in-Call c =
    c.row_operand.ensures
    ∙ ap (λ ts. row_at c.in-Call.arguments ts c.args.index) (c.skip-row.ensures ∙ ap (drop 1) c.tokens_after_path.ensures)
    ∙ seen c.args.form.now.tree.now (t.Call c.in-Call.path c.in-Call.arguments) (tree.Call c.in-Call.path c.in-Call.arguments) (form_of c.args.form.now) c.args.index c.in-Call.is (t.outs-Call c.in-Call.path c.in-Call.arguments)

pub returns-in-Set : goal.returns-in-Set
returns-in-Set c =
    c.row_operand-in-Set.ensures
    ∙ ap (λ ts. row_at c.in-Set.members ts c.args.index) c.skip.ensures
    ∙ seen c.args.form.now.tree.now (t.Set c.in-Set.members) (tree.Set c.in-Set.members) (form_of c.args.form.now) c.args.index c.in-Set.is (t.outs-Set c.in-Set.members)

pub returns-in-Record : goal.returns-in-Record
returns-in-Record c =
    c.entry_operand.ensures
    ∙ ap (λ ts. entry_at c.in-Record.entries ts c.args.index) c.skip-in-Record.ensures
    ∙ seen c.args.form.now.tree.now (t.Record c.in-Record.entries) (tree.Record c.in-Record.entries) (form_of c.args.form.now) c.args.index c.in-Record.is (t.outs-Record c.in-Record.entries)

pub returns-in-Member : goal.returns-in-Member
returns-in-Member c =
    c.member_operand.ensures
    ∙ seen c.args.form.now.tree.now (t.Member c.in-Member.first c.in-Member.accesses) (tree.Member c.in-Member.first c.in-Member.accesses) (form_of c.args.form.now) c.args.index c.in-Member.is (t.outs-Member c.in-Member.first c.in-Member.accesses)

pub returns-in-Not : goal.returns-in-Not
returns-in-Not c =
    c.one_operand.ensures
    ∙ ap (λ ts. only_operand_at c.in-Not.inner ts c.args.index) c.skip-in-Not.ensures
    ∙ seen c.args.form.now.tree.now (t.Not c.in-Not.inner) (tree.Not c.in-Not.inner) (form_of c.args.form.now) c.args.index c.in-Not.is (t.outs-Not c.in-Not.inner)

pub returns-in-Minus : goal.returns-in-Minus
returns-in-Minus c =
    c.negated_operand.ensures
    ∙ ap (λ ts. minus_operand (out-ExprTree c.in-Minus.inner) c.in-Minus.inner ts c.args.index) c.skip-in-Minus.ensures
    ∙ seen c.args.form.now.tree.now (t.Minus c.in-Minus.inner) (tree.Minus c.in-Minus.inner) (form_of c.args.form.now) c.args.index c.in-Minus.is (t.outs-Minus c.in-Minus.inner)

pub returns-in-Product : goal.returns-in-Product
returns-in-Product c =
    c.chain_operand.ensures
    ∙ seen-chain c.args.form.now.tree.now c.in-Product.first c.in-Product.more (form_of c.args.form.now) c.args.index c.in-Product.is

pub returns-in-Sum : goal.returns-in-Sum
returns-in-Sum c =
    c.sum_operand.ensures
    ∙ seen c.args.form.now.tree.now (t.Sum c.in-Sum.first c.in-Sum.terms) (tree.Sum c.in-Sum.first c.in-Sum.terms) (form_of c.args.form.now) c.args.index c.in-Sum.is (t.outs-Sum c.in-Sum.first c.in-Sum.terms)

pub returns-in-Compare : goal.returns-in-Compare
returns-in-Compare c =
    c.compared_operand.ensures
    ∙ ap (λ n. compared_at n (form_of c.args.form.now) c.in-Compare.left c.in-Compare.right c.args.index) c.is_negation-negated.ensures
    ∙ seen c.args.form.now.tree.now (t.Compare c.in-Compare.left c.in-Compare.operator c.in-Compare.right) (tree.Compare c.in-Compare.left c.in-Compare.operator c.in-Compare.right) (form_of c.args.form.now) c.args.index c.in-Compare.is (t.outs-Compare c.in-Compare.left c.in-Compare.operator c.in-Compare.right)

pub returns-in-Has : goal.returns-in-Has
returns-in-Has c =
    c.one_operand-in-Has.ensures
    ∙ seen-postfix c.args.form.now.tree.now c.in-Has.inner (form_of c.args.form.now) c.args.index c.in-Has.is

pub returns-in-IsIn : goal.returns-in-IsIn
returns-in-IsIn c =
    c.test_operand.ensures
    ∙ seen c.args.form.now.tree.now (t.IsIn c.in-IsIn.inner c.in-IsIn.path c.in-IsIn.outer) (tree.IsIn c.in-IsIn.inner c.in-IsIn.path c.in-IsIn.outer) (form_of c.args.form.now) c.args.index c.in-IsIn.is (t.outs-IsIn c.in-IsIn.inner c.in-IsIn.path c.in-IsIn.outer)

pub returns-in-If : goal.returns-in-If
returns-in-If c =
    c.if_operand.ensures
    ∙ seen c.args.form.now.tree.now (t.If c.in-If.test c.in-If.consequent c.in-If.alternative) (tree.If c.in-If.test c.in-If.consequent c.in-If.alternative) (form_of c.args.form.now) c.args.index c.in-If.is (t.outs-If c.in-If.test c.in-If.consequent c.in-If.alternative)

pub returns-in_default : goal.returns-in_default
returns-in_default c =
    operand-leaf (form_of c.args.form.now) c.args.index
    (record {
      not-Call = c.in_default.not-Call;
      not-Set = c.in_default.not-Set;
      not-Record = c.in_default.not-Record;
      not-Member = c.in_default.not-Member;
      not-Not = c.in_default.not-Not;
      not-Minus = c.in_default.not-Minus;
      not-Product = c.in_default.not-Product;
      not-Sum = c.in_default.not-Sum;
      not-Compare = c.in_default.not-Compare;
      not-Has = c.in_default.not-Has;
      not-Like = c.in_default.not-Like;
      not-Is = c.in_default.not-Is;
      not-IsIn = c.in_default.not-IsIn;
      not-And = c.in_default.not-And;
      not-Or = c.in_default.not-Or;
      not-If = c.in_default.not-If;
    })
