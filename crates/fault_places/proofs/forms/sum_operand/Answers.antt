use Rattle.std.proofs.Common.{◌≡◌, ◌∙◌, ◌-◌, ap, ℕ, List, Option, Some, None, drop, take, map, length, slice_get}
use Rattle.std.specs.Option.{option_map}
use Rattle.grammar_syntax.specs.declared.token.Token.{Token}
use Rattle.grammar_syntax.specs.declared.tree.ExprTree.{ExprTree}
use Rattle.grammar_syntax.specs.declared.tree.Term.{Term}
use Rattle.fault_places.specs.TokenCounts.{tree_count, term_count, each_count}
use Rattle.fault_places.specs.Forms.{Form, form_of, whole, kept, term_at}
use Rattle.fault_places.proofs.Opening.{chain-second}
use Rattle.fault_places.proofs.forms.sum_operand.Goals as goal

abbrev piece : ExprTree → List (Term ExprTree) → List Token → ℕ → Term ExprTree → Form
piece a terms ts i b = whole b.operand (drop 1 (drop (each_count (map term_count (take i terms))) (drop (tree_count a) ts)))

pub returns-in-None : goal.returns-in-None
returns-in-None c =
    let a = c.args.first.now in
    let terms = c.args.terms.now in
    let ts = c.args.form.now.tokens.now in
    let n = kept c.args.form.now.part (length terms) in
    let before = c.saturating_sub-before.result in
    let is : before ≡ n - 1 = c.saturating_sub-before.ensures ∙ ap (λ k. k - 1) (c.kept.ensures ∙ ap (kept c.args.form.now.part) c.len.ensures) in
    chain-second (form_of c.args.form.now) a (term_at a terms ts) n c.args.index before None c.if-index-eq1.true is
    (ap (option_map (piece a terms ts before)) (c.in-None.ensures ∙ ap (λ xs. slice_get xs before) c.as_slice-terms.ensures))

pub returns-in-Some : goal.returns-in-Some
returns-in-Some c =
    let a = c.args.first.now in
    let terms = c.args.terms.now in
    let ts = c.args.form.now.tokens.now in
    let n = kept c.args.form.now.part (length terms) in
    let before = c.saturating_sub-before.result in
    let is : before ≡ n - 1 = c.saturating_sub-before.ensures ∙ ap (λ k. k - 1) (c.kept.ensures ∙ ap (kept c.args.form.now.part) c.len.ensures) in
    let past =
    c.tokens_after_terms-behind.ensures
    ∙ ap (λ xs. drop (each_count (map term_count xs)) c.tokens_after_operand-behind.result.now) (c.front.ensures ∙ ap (take before) c.as_slice-terms.ensures)
    ∙ ap (drop (each_count (map term_count (take before terms)))) c.tokens_after_operand-behind.ensures in
    chain-second (form_of c.args.form.now) a (term_at a terms ts) n c.args.index before (Some (form_of c.whole.result)) c.if-index-eq1.true is
    (ap (λ f. Some f) (c.whole.ensures ∙ ap (whole c.in-Some.term.now.operand) (c.skip.ensures ∙ ap (drop 1) past))
    ∙ ap (option_map (piece a terms ts before)) (c.in-Some.ensures ∙ ap (λ xs. slice_get xs before) c.as_slice-terms.ensures))
