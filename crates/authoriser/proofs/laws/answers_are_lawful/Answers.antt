use Rattle.authoriser.proofs.Lawful.{lists_ascend}
use Rattle.authoriser.proofs.Existing.{one_answer_in_finite}
use Rattle.authoriser.proofs.Policies.{default_deny, leaving_out_changes_nothing, order_does_not_matter}
use Rattle.authoriser.proofs.Reasons.{forbid_decides, permits_decide, errors_are_told}
use Rattle.authoriser.proofs.laws.answers_are_lawful.Goals as goal

pub returns : goal.returns
returns c =
    let law = c.expressions_have_one_outcome.ensures in
    let cycles = c.cycles_have_one_least.ensures in
    record {
      one = c.answers_are_one.ensures;
      finite = one_answer_in_finite c.paths_are_decided.ensures cycles.there law.decided law.memory c.answers_are_one.ensures;
      default_deny = default_deny;
      forbid = forbid_decides law.decided;
      permits = permits_decide law.decided;
      errors = errors_are_told law.decided;
      idle = c.idle_policies_change_nothing.ensures;
      left_out = leaving_out_changes_nothing c.idle_policies_change_nothing.ensures;
      order = order_does_not_matter cycles.one law.decided;
      ascending = lists_ascend;
    }
