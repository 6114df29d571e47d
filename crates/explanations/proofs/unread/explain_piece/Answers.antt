use Rattle.std.proofs.Common.{option_map, string_bytes, refl}
use Rattle.schema_decisions.specs.schema.Views.{schema_view}
use Rattle.explanations.proofs.Joining.{piece_parses, piece_does_not}
use Rattle.explanations.proofs.unread.explain_piece.Goals as goal

pub returns-in_ok-explained-in-Ok : goal.returns-in_ok-explained-in-Ok
returns-in_ok-explained-in-Ok c =
    piece_parses (option_map (λ s. schema_view s.now) c.args.schema) c.args.lexed.file.now c.args.lexed.text.now c.args.lexed.tokens.now (string_bytes c.args.out.now) c.args.lexed.refusal c.args.piece.now c.part_of.result.now _ _
    (string_bytes c.explain_policies-explained.new.out) c.part_of.ensures c.in-Ok.ensures.read
    (rw (c.from_ref-pieces.ensures.value, c.deref.ensures.value) at c.in_ok-explained-in-Ok.ensures)

pub returns-in_ok-push_read_fault-in_default : goal.returns-in_ok-push_read_fault-in_default
returns-in_ok-push_read_fault-in_default c =
    piece_does_not (option_map (λ s. schema_view s.now) c.args.schema) c.args.lexed.file.now c.args.lexed.text.now c.args.lexed.tokens.now (string_bytes c.args.out.now) c.args.lexed.refusal c.args.piece.now c.part_of.result.now c.in-Err.fault
    c.code-code.result c.saturating_add-at.result c.is_that.result (string_bytes c.push_read_fault.new.out) c.is_that.ensures c.code-code.ensures
    (rw (c.saturating_add-at.ensures, c.unwrap_or.ensures, c.place.ensures) refl) c.part_of.ensures (c.in-Err.ensures.refused c.in_default.not-NoMemory)
    c.in_ok-push_read_fault-in_default.ensures
