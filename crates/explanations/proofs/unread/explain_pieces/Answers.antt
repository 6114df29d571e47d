use Rattle.std.proofs.Common.{option_map, string_bytes}
use Rattle.schema_decisions.specs.schema.Views.{schema_view}
use Rattle.explanations.proofs.Stepping.{no_piece, piece_more, all_pieces}
use Rattle.explanations.proofs.unread.explain_pieces.Goals as goal

pub loop-piece-init : goal.loop-piece-init
loop-piece-init c =
    no_piece (option_map (λ s. schema_view s.now) c.args.schema) c.args.lexed.file.now c.args.lexed.text.now c.args.lexed.tokens.now c.args.lexed.refusal (string_bytes c.args.out.now)

pub loop-piece-preserved : goal.loop-piece-preserved
loop-piece-preserved c =
    piece_more (option_map (λ s. schema_view s.now) c.args.schema) c.args.lexed.file.now c.args.lexed.text.now c.args.lexed.tokens.now c.args.lexed.refusal c.args.pieces.now c.loop-piece.piece-index
    _ (string_bytes c.args.out.now) (string_bytes c.loop-piece.out) (string_bytes c.explain_piece.new.out) c.loop-piece.some c.in_ok-some.field-0
    c.loop-piece-test.true c.loop-piece.invariant c.in_ok-some.ensures

pub returns : goal.returns
returns c =
    all_pieces (option_map (λ s. schema_view s.now) c.args.schema) c.args.lexed.file.now c.args.lexed.text.now c.args.lexed.tokens.now c.args.lexed.refusal c.args.pieces.now c.loop-piece.piece-index
    (string_bytes c.args.out.now) (string_bytes c.loop-piece.out) c.loop-piece.some c.loop-piece-test.false c.loop-piece.invariant
