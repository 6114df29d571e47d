use Rattle.std.proofs.Common.{map, drop}
use Rattle.policy_grammar.proofs.Cutting.{IsCut}
use Rattle.policy_grammar.proofs.cuts.cut.Given as goal

abbrev pub invariant-loop-token : goal.invariant-loop-token
invariant-loop-token l = IsCut l.text l.tokens (map (λ t. t.now) l.texts.items) l.from (drop l.token-index l.tokens)
