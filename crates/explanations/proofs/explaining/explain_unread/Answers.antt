use Rattle.std.proofs.Common.{◌∙◌, ℕ, Option, ap, option_map, string_bytes}
use Rattle.std.specs.Option.{unwrap_or}
use Rattle.schema_decisions.specs.schema.Views.{schema_view}
use Rattle.explanations.proofs.Appending.{on_ok}
use Rattle.explanations.proofs.Joining.{pieces_tell, file_tells}
use Rattle.explanations.proofs.explaining.explain_unread.Goals as goal

pub returns-then-some : goal.returns-then-some
returns-then-some c = (
  c.in_ok-unless_no_memory.ensures,
  pieces_tell (option_map (λ s. schema_view s.now) c.args.schema) c.args.lexed.file.now c.args.lexed.text.now c.args.lexed.tokens.now (string_bytes c.args.out.now) c.args.pieces.now c.args.lexed.refusal
      (string_bytes c.explain_pieces.new.out) c.in_ok-some.some c.if-some.true c.in_ok-some.ensures,
)

pub returns : goal.returns
returns c =
    on_ok c.push_read_fault.result c.push_read_fault.ensures (λ told. (
      c.in_ok-unless_no_memory.ensures,
      file_tells (option_map (λ s. schema_view s.now) c.args.schema) c.args.lexed.file.now c.args.lexed.text.now c.args.lexed.tokens.now (string_bytes c.args.out.now) c.args.pieces.now c.args.lexed.refusal
          (string_bytes c.explain_pieces.new.out) (string_bytes c.push_read_fault.new.out) c.in_ok-some.some c.unwrap_or-at.result c.if-some.false
          (c.unwrap_or-at.ensures ∙ ap (λ (o : Option ℕ). unwrap_or o 0) c.place_number.ensures) c.in_ok-some.ensures told,
    ))
