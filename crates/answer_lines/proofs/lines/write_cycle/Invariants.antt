use Rattle.entity_uids.specs.Uids.{uid_json}
use Rattle.entity_uids.specs.Tokens.{AppendsTokens}
use Rattle.entity_uids.proofs.Adding.{first_tokens}
use Rattle.answer_lines.proofs.lines.write_cycle.Given as goal

abbrev pub invariant-loop-uid : goal.invariant-loop-uid
invariant-loop-uid l = AppendsTokens l.fn.out l.out (first_tokens uid_json l.uids l.uid-index)
