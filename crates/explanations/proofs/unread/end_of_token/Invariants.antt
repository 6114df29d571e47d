use Rattle.std.proofs.Common.{◌≡◌, ◌==◌, drop}
use Rattle.std.specs.List.{find}
use Rattle.explanations.proofs.unread.end_of_token.Given as goal

-- no token up to here starts at the byte
abbrev pub invariant-loop-token : goal.invariant-loop-token
invariant-loop-token l = find (λ t. t.start == l.at) l.tokens ≡ find (λ t. t.start == l.at) (drop l.token-index l.tokens)
