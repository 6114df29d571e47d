use Rattle.std.proofs.Common.{◌∙◌, ap, ℕ, List, Some, drop, take, map, slice_get}
use Rattle.std.specs.Option.{option_map}
use Rattle.grammar_syntax.specs.declared.token.Token.{Token}
use Rattle.grammar_syntax.specs.declared.tree.ExprTree.{ExprTree}
use Rattle.fault_places.specs.TokenCounts.{tree_count, each_count}
use Rattle.fault_places.specs.Forms.{Form, whole}
use Rattle.fault_places.proofs.forms.row_operand.Goals as goal

abbrev piece : List ExprTree → List Token → ℕ → ExprTree → Form
piece items ts i b = whole b (drop (each_count (map tree_count (take i items))) ts)

pub returns-in-None : goal.returns-in-None
returns-in-None c =
    ap (option_map (piece c.args.items.now c.args.tokens.now c.args.index))
    (c.in-None.ensures ∙ ap (λ xs. slice_get xs c.args.index) c.as_slice-items.ensures)

pub returns-in-Some : goal.returns-in-Some
returns-in-Some c =
    let past =
    c.tokens_after_each.ensures
    ∙ ap (λ xs. drop (each_count (map tree_count xs)) c.args.tokens.now) (c.front.ensures ∙ ap (take c.args.index) c.as_slice-items.ensures) in
    ap (λ f. Some f) (c.whole.ensures ∙ ap (whole c.in-Some.item.now) past)
    ∙ ap (option_map (piece c.args.items.now c.args.tokens.now c.args.index))
    (c.in-Some.ensures ∙ ap (λ xs. slice_get xs c.args.index) c.as_slice-items.ensures)
