use Rattle.std.proofs.Common.{take}
use Rattle.explanations.specs.Pieces.{ArePieces}
use Rattle.explanations.proofs.pieces.pieces_of.Given as goal

-- the tokens up to here are these pieces
abbrev pub invariant-loop-token : goal.invariant-loop-token
invariant-loop-token l = ArePieces (take l.token-index l.tokens) l.pieces.items l.open
