use Rattle.std.proofs.Common.{List, None, take, sym, subst}
use Rattle.explanations.specs.declared.pieces.Piece.{Piece}
use Rattle.explanations.specs.Pieces.{ArePieces}
use Rattle.explanations.proofs.Stepping.{no_token, token_more, all_tokens}
use Rattle.explanations.proofs.pieces.pieces_of.Goals as goal

pub loop-token-init : goal.loop-token-init
loop-token-init c =
    subst (λ (l : List Piece). ArePieces (take 0 c.args.tokens.now) l None) (sym c.new-pieces.ensures.items) (no_token c.args.tokens.now)

pub loop-token-preserved : goal.loop-token-preserved
loop-token-preserved c =
    token_more c.args.tokens.now c.loop-token.token-index _ c.loop-token.pieces.items c.take_token.new.pieces.items c.loop-token.open c.in_ok-after.after
    c.loop-token-test.true c.loop-token.invariant c.in_ok-after.ensures

pub returns : goal.returns
returns c =
    (c.loop-token.pieces.items, c.loop-token.open, all_tokens c.args.tokens.now c.loop-token.token-index c.loop-token.pieces.items c.loop-token.open c.loop-token-test.false c.loop-token.invariant, c.in_ok-push_open.ensures)
