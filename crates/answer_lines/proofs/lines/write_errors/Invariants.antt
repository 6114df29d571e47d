use Rattle.answer_lines.specs.Lines.{erring_json}
use Rattle.entity_uids.specs.Tokens.{AppendsTokens}
use Rattle.entity_uids.proofs.Adding.{first_tokens}
use Rattle.answer_lines.proofs.lines.write_errors.Given as goal

abbrev pub invariant-loop-erring : goal.invariant-loop-erring
invariant-loop-erring l = AppendsTokens l.fn.out l.out (first_tokens erring_json l.errors l.erring-index)
