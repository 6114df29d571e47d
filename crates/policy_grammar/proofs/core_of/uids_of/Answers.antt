use Rattle.std.proofs.Common.{subst, sym, take, ◌+◌}
use Rattle.policy_grammar.specs.CoreOf.{IsUidOf, AreUidsOf}
use Rattle.policy_grammar.proofs.Lists.{all_zip-step}
use Rattle.policy_grammar.proofs.core_of.uids_of.Goals as goal

pub loop-tree-preserved : goal.loop-tree-preserved
loop-tree-preserved c =
    let trees = c.as_slice-tree-items.result.now in
    subst (AreUidsOf c.args.text.now (take (c.loop-tree.tree-index + 1) trees)) (sym c.in_ok-push.ensures.items)
    (all_zip-step (IsUidOf c.args.text.now) trees c.loop-tree.uids.items c.loop-tree.tree-index c.tree-item.result c.in_ok-uid.uid c.loop-tree.invariant
    c.loop-tree-test.true (subst (λ t. IsUidOf c.args.text.now t c.in_ok-uid.uid) c.tree-item.is c.in_ok-uid.ensures))
