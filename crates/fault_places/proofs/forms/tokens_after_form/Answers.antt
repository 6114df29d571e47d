use Rattle.std.proofs.Common.{ap, sym, ◌∙◌, drop, take, map, length}
use Rattle.grammar_syntax.specs.declared.tree.ExprTree.TheVariants as t
use Rattle.grammar_syntax.specs.declared.tree.ExprTree.TheOpen.{ExprTree-F as tree}
use Rattle.fault_places.specs.TokenCounts.{tree_count, term_count, access_tree_count, each_count, total}
use Rattle.fault_places.specs.Forms.{form_of, kept, tokens_after_test}
use Rattle.fault_places.proofs.Opening.{seen_behind, seen_behind-chain, behind-other, test-other}
use Rattle.fault_places.proofs.forms.tokens_after_form.Goals as goal

pub returns-in-Member : goal.returns-in-Member
returns-in-Member c =
    c.tokens_after_accesses.ensures
    ∙ ap (λ ys. drop (total (map access_tree_count ys)) c.tokens_after_operand.result.now) c.pieces-pieces.ensures
    ∙ ap (drop (total (map access_tree_count (take (kept c.args.form.now.part (length c.in-Member.accesses)) c.in-Member.accesses)))) c.tokens_after_operand.ensures
    ∙ seen_behind c.args.form.now.tree.now (t.Member c.in-Member.first c.in-Member.accesses) (tree.Member c.in-Member.first c.in-Member.accesses) (form_of c.args.form.now) c.in-Member.is (t.outs-Member c.in-Member.first c.in-Member.accesses)

pub returns-in-Product : goal.returns-in-Product
returns-in-Product c =
    let n = kept c.args.form.now.part (length c.in-Product.more) in
    c.tokens_after_each.ensures
    ∙ ap (λ ys. drop (each_count (map tree_count ys)) c.tokens_after_operand-in-Product.result.now) c.pieces-pieces-in-Product.ensures
    ∙ ap (drop (each_count (map tree_count (take n c.in-Product.more)))) c.tokens_after_operand-in-Product.ensures
    ∙ seen_behind-chain c.args.form.now.tree.now c.in-Product.first c.in-Product.more (form_of c.args.form.now) c.in-Product.is

pub returns-in-Sum : goal.returns-in-Sum
returns-in-Sum c =
    c.tokens_after_terms.ensures
    ∙ ap (λ ys. drop (each_count (map term_count ys)) c.tokens_after_operand-in-Sum.result.now) c.pieces-pieces-in-Sum.ensures
    ∙ ap (drop (each_count (map term_count (take (kept c.args.form.now.part (length c.in-Sum.terms)) c.in-Sum.terms)))) c.tokens_after_operand-in-Sum.ensures
    ∙ seen_behind c.args.form.now.tree.now (t.Sum c.in-Sum.first c.in-Sum.terms) (tree.Sum c.in-Sum.first c.in-Sum.terms) (form_of c.args.form.now) c.in-Sum.is (t.outs-Sum c.in-Sum.first c.in-Sum.terms)

pub returns-in-Test : goal.returns-in-Test
returns-in-Test c =
    c.tokens_after_test.ensures
    ∙ ap (λ p. tokens_after_test p (form_of c.args.form.now) c.in-IsIn.inner c.in-IsIn.path c.in-IsIn.field-2) (sym c.in-Test.is)
    ∙ seen_behind c.args.form.now.tree.now (t.IsIn c.in-IsIn.inner c.in-IsIn.path c.in-IsIn.field-2) (tree.IsIn c.in-IsIn.inner c.in-IsIn.path c.in-IsIn.field-2) (form_of c.args.form.now) c.in-IsIn.is (t.outs-IsIn c.in-IsIn.inner c.in-IsIn.path c.in-IsIn.field-2)

pub returns-in_default-part : goal.returns-in_default-part
returns-in_default-part c =
    c.tokens_after_tree.ensures
    ∙ test-other c.args.form.now.part (form_of c.args.form.now) c.in-IsIn.inner c.in-IsIn.path c.in-IsIn.field-2 c.in_default-part.not-Test
    ∙ seen_behind c.args.form.now.tree.now (t.IsIn c.in-IsIn.inner c.in-IsIn.path c.in-IsIn.field-2) (tree.IsIn c.in-IsIn.inner c.in-IsIn.path c.in-IsIn.field-2) (form_of c.args.form.now) c.in-IsIn.is (t.outs-IsIn c.in-IsIn.inner c.in-IsIn.path c.in-IsIn.field-2)

pub returns-in_default : goal.returns-in_default
returns-in_default c =
    c.tokens_after_tree-in_default.ensures
    ∙ behind-other (form_of c.args.form.now) c.in_default.not-Member c.in_default.not-Product c.in_default.not-Sum c.in_default.not-And c.in_default.not-Or c.in_default.not-IsIn
