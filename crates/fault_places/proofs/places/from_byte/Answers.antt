use Rattle.std.proofs.Common.{◌∙◌, ap, drop}
use Rattle.std.proofs.lemmas.List.{drop-drop}
use Rattle.fault_places.proofs.Finding.{found-here, found-later, found-nowhere}
use Rattle.fault_places.proofs.places.from_byte.Goals as goal

pub returns-then-token-at : goal.returns-then-token-at
returns-then-token-at c =
    c.loop-token.invariant.0
    ∙ found-here c.args.at c.args.tokens.now c.loop-token.token-index _ c.loop-token-test.true c.if-token-at.true
    ∙ c.loop-token.invariant.1

pub loop-token-preserved : goal.loop-token-preserved
loop-token-preserved c = (
  c.skip-rest.ensures ∙ ap (drop 1) c.loop-token.invariant.0 ∙ drop-drop 1 c.loop-token.token-index c.args.tokens.now,
  found-later c.args.at c.args.tokens.now c.loop-token.token-index _ c.loop-token-test.true c.if-token-at.false
      ∙ c.loop-token.invariant.1,
)

pub returns : goal.returns
returns c =
    c.loop-token.invariant.0
    ∙ found-nowhere c.args.at c.args.tokens.now c.loop-token.token-index c.loop-token-test.false
    ∙ c.loop-token.invariant.1
