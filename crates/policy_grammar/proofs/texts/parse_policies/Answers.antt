use Rattle.std.proofs.Common.{subst}
use Rattle.policy_grammar.specs.CoreOf.{AreNamesOf}
use Rattle.policy_grammar.proofs.Refusing.{file-refused}
use Rattle.policy_grammar.proofs.texts.parse_policies.Goals as goal

pub returns-clause-refused : goal.returns-clause-refused
returns-clause-refused c =
    file-refused c.args.text.now c.in_ok-trees.trees.items c.in_ok-names.names.items c.in_ok-trees.ensures.derives
    (subst (λ ts. AreNamesOf c.args.text.now ts c.in_ok-names.names.items) c.deref.ensures.value c.in_ok-names.ensures) c.policies_of.result
    c.policies_of.ensures.refused
