use Rattle.std.proofs.Common.{◌≡◌, ◌∙◌, ◌-◌, ap, sym, ℕ, List, Option, None, drop, take, map, length, slice_get}
use Rattle.std.specs.Option.{option_and_then, option_map}
use Rattle.grammar_syntax.specs.declared.token.Token.{Token}
use Rattle.grammar_syntax.specs.declared.tree.ExprTree.{ExprTree}
use Rattle.grammar_syntax.specs.declared.tree.Access.{Access}
use Rattle.fault_places.specs.TokenCounts.{tree_count, access_tree_count, total}
use Rattle.fault_places.specs.Forms.{Form, form_of, kept, argument_at, row_at}
use Rattle.fault_places.proofs.Opening.{member-argument}
use Rattle.fault_places.proofs.forms.member_operand.Goals as goal

abbrev piece : ExprTree → List (Access (List ExprTree)) → List Token → ℕ → ℕ → Access (List ExprTree) → Option Form
piece a accesses ts n i x = argument_at x (drop (total (map access_tree_count (take n accesses))) (drop (tree_count a) ts)) i

pub returns-in-None : goal.returns-in-None
returns-in-None c =
    let a = c.args.first.now in
    let accesses = c.args.accesses.now in
    let ts = c.args.form.now.tokens.now in
    let n = kept c.args.form.now.part (length accesses) in
    let before = c.saturating_sub-before.result in
    let is : before ≡ n - 1 = c.saturating_sub-before.ensures ∙ ap (λ k. k - 1) (c.kept.ensures ∙ ap (kept c.args.form.now.part) c.len.ensures) in
    member-argument (form_of c.args.form.now) a accesses n c.args.index before None c.if-index-eq0.false is
    (ap (option_and_then (piece a accesses ts before (c.args.index - 1))) (c.in-None.ensures ∙ ap (λ xs. slice_get xs before) c.as_slice-accesses.ensures))

pub returns-in-Field : goal.returns-in-Field
returns-in-Field c =
    let a = c.args.first.now in
    let accesses = c.args.accesses.now in
    let ts = c.args.form.now.tokens.now in
    let n = kept c.args.form.now.part (length accesses) in
    let before = c.saturating_sub-before.result in
    let is : before ≡ n - 1 = c.saturating_sub-before.ensures ∙ ap (λ k. k - 1) (c.kept.ensures ∙ ap (kept c.args.form.now.part) c.len.ensures) in
    member-argument (form_of c.args.form.now) a accesses n c.args.index before None c.if-index-eq0.false is
    (ap (piece a accesses ts before (c.args.index - 1)) (sym c.in-Field.is)
    ∙ ap (option_and_then (piece a accesses ts before (c.args.index - 1))) (c.in-Some.ensures ∙ ap (λ xs. slice_get xs before) c.as_slice-accesses.ensures))

pub returns-in-Method : goal.returns-in-Method
returns-in-Method c =
    let a = c.args.first.now in
    let accesses = c.args.accesses.now in
    let ts = c.args.form.now.tokens.now in
    let n = kept c.args.form.now.part (length accesses) in
    let before = c.saturating_sub-before.result in
    let is : before ≡ n - 1 = c.saturating_sub-before.ensures ∙ ap (λ k. k - 1) (c.kept.ensures ∙ ap (kept c.args.form.now.part) c.len.ensures) in
    let past =
    c.tokens_after_accesses-behind.ensures
    ∙ ap (λ xs. drop (total (map access_tree_count xs)) c.tokens_after_operand-behind.result.now) (c.front.ensures ∙ ap (take before) c.as_slice-accesses.ensures)
    ∙ ap (drop (total (map access_tree_count (take before accesses)))) c.tokens_after_operand-behind.ensures in
    member-argument (form_of c.args.form.now) a accesses n c.args.index before (option_map form_of c.row_operand.result) c.if-index-eq0.false is
    (c.row_operand.ensures
    ∙ ap (λ us. row_at c.in-Method.arguments us (c.args.index - 1)) (c.skip.ensures ∙ ap (drop 3) past)
    ∙ ap (piece a accesses ts before (c.args.index - 1)) (sym c.in-Method.is)
    ∙ ap (option_and_then (piece a accesses ts before (c.args.index - 1))) (c.in-Some.ensures ∙ ap (λ xs. slice_get xs before) c.as_slice-accesses.ensures))
