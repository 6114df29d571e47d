use Rattle.std.proofs.Common.{◌∙◌, ap, ℕ, List, Some, drop, take, map, slice_get}
use Rattle.std.specs.Option.{option_map}
use Rattle.grammar_syntax.specs.declared.token.Token.{Token}
use Rattle.grammar_syntax.specs.declared.tree.ExprTree.{ExprTree}
use Rattle.grammar_syntax.specs.declared.tree.RecordEntry.{RecordEntry}
use Rattle.fault_places.specs.TokenCounts.{entry_count, each_count}
use Rattle.fault_places.specs.Forms.{Form, whole}
use Rattle.fault_places.proofs.forms.entry_operand.Goals as goal

abbrev piece : List (RecordEntry ExprTree) → List Token → ℕ → RecordEntry ExprTree → Form
piece entries ts i e = whole e.value (drop 2 (drop (each_count (map entry_count (take i entries))) ts))

pub returns-in-None : goal.returns-in-None
returns-in-None c =
    ap (option_map (piece c.args.entries.now c.args.tokens.now c.args.index))
    (c.in-None.ensures ∙ ap (λ xs. slice_get xs c.args.index) c.as_slice-entries.ensures)

pub returns-in-Some : goal.returns-in-Some
returns-in-Some c =
    let past =
    c.tokens_after_entries-before.ensures
    ∙ ap (λ xs. drop (each_count (map entry_count xs)) c.args.tokens.now) (c.front.ensures ∙ ap (take c.args.index) c.as_slice-entries.ensures) in
    ap (λ f. Some f) (c.whole.ensures ∙ ap (whole c.in-Some.entry.now.value) (c.skip.ensures ∙ ap (drop 2) past))
    ∙ ap (option_map (piece c.args.entries.now c.args.tokens.now c.args.index))
    (c.in-Some.ensures ∙ ap (λ xs. slice_get xs c.args.index) c.as_slice-entries.ensures)
