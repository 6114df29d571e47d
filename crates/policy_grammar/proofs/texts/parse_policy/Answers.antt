use Rattle.std.proofs.Common.{IfOk, IfErr, sym, subst}
use Rattle.plain.specs.AllocationErrors.{OrNoMemory}
use Rattle.policy_grammar.specs.PolicyText.{IsPolicyText, IsPolicyRefused}
use Rattle.policy_grammar.specs.declared.fault.ReadFault.TheVariants as fault
use Rattle.policy_grammar.proofs.Refusing.{policy_read, policy_refused}
use Rattle.policy_grammar.proofs.texts.parse_policy.Goals as goal

pub returns-clause-read : goal.returns-clause-read
returns-clause-read c =
    subst (λ r. IfOk r (IsPolicyText c.args.text.now)) (sym c.after.ensures)
    (policy_read c.args.text.now c.in_ok-tree.tree c.in_ok-tree.ensures.derives c.policy_of-made.result c.policy_of-made.ensures.read)

pub returns-clause-refused : goal.returns-clause-refused
returns-clause-refused c =
    subst (λ r. IfErr r (OrNoMemory fault.NoMemory (IsPolicyRefused c.args.text.now))) (sym c.after.ensures)
    (policy_refused c.args.text.now c.in_ok-tree.tree c.in_ok-tree.ensures.derives c.policy_of-made.result c.policy_of-made.ensures.refused)
