use Rattle.std.proofs.Common.{option_map, string_bytes}
use Rattle.schema_decisions.specs.schema.Views.{schema_view}
use Rattle.explanations.proofs.Appending.{on_ok}
use Rattle.explanations.proofs.Joining.{text_parses, text_does_not}
use Rattle.explanations.proofs.explaining.explain_text.Goals as goal

pub returns-in-Ok : goal.returns-in-Ok
returns-in-Ok c =
    on_ok c.explain_policies-explained.result (rw (c.as_slice-found_pieces.ensures.value, c.as_slice-named.ensures.value) at c.explain_policies-explained.ensures)
    (text_parses (option_map (λ s. schema_view s.now) c.args.schema) c.args.file.now c.args.text.now c.in_ok-tokens.tokens.items c.in_ok-pieces.pieces.items
    c.in_ok-tokens.ensures (rw c.as_slice-all.ensures.value at c.in_ok-pieces.ensures) (string_bytes c.args.out.now)
    (string_bytes c.explain_policies-explained.new.out) _ _ (rw c.as_bytes.ensures.value at c.in-Ok.ensures.read))

pub returns : goal.returns
returns c =
    on_ok c.explain_unread.result c.explain_unread.ensures (λ told. text_does_not (option_map (λ s. schema_view s.now) c.args.schema) c.args.file.now c.args.text.now
    c.in_ok-tokens.tokens.items c.in_ok-pieces.pieces.items c.in_ok-tokens.ensures (rw c.as_slice-all.ensures.value at c.in_ok-pieces.ensures)
    (string_bytes c.args.out.now) (string_bytes c.explain_unread.new.out) c.in-Err.refusal (rw c.as_bytes.ensures.value at (c.in-Err.ensures.refused told.0))
    (rw (c.as_slice-all.ensures.value, c.as_slice-found_pieces.ensures.value) at told.1))
