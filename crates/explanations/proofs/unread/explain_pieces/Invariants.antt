use Rattle.std.proofs.Common.{take, string_bytes, option_map}
use Rattle.schema_decisions.specs.schema.Views.{schema_view}
use Rattle.explanations.specs.UnparsedFiles.{ArePiecesExplained, AppendsExplained}
use Rattle.explanations.proofs.unread.explain_pieces.Given as goal

-- the pieces up to here are explained
abbrev pub invariant-loop-piece : goal.invariant-loop-piece
invariant-loop-piece l =
    AppendsExplained (ArePiecesExplained (option_map (λ s. schema_view s.now) l.schema) l.lexed.file.now l.lexed.text.now l.lexed.tokens.now l.lexed.refusal (take l.piece-index l.pieces))
    (string_bytes l.initial.out) (string_bytes l.out) l.some
