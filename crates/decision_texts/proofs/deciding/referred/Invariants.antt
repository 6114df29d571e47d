use Rattle.std.proofs.Common.{◌≡◌, map, take, string_bytes}
use Rattle.answer_lines.specs.authoriser.Views.{named}
use Rattle.decision_texts.proofs.deciding.referred.Given as goal

abbrev pub invariant-loop-id : goal.invariant-loop-id
invariant-loop-id l = named l.refs.items ≡ map (λ p. record { id = string_bytes p.0; policy = p.1 }) (take l.id-index l.policies)
