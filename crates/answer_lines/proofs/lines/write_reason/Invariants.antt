use Rattle.std.proofs.Common.{ap, List, ℕ}
use Rattle.serde_json.specs.Data.{string}
use Rattle.entity_uids.specs.Tokens.{AppendsTokens}
use Rattle.entity_uids.proofs.Adding.{first_tokens}
use Rattle.answer_lines.proofs.lines.write_reason.Given as goal

abbrev pub invariant-loop-id : goal.invariant-loop-id
invariant-loop-id l = AppendsTokens l.fn.out l.out (first_tokens (λ id. string id) l.ids l.id-index)
