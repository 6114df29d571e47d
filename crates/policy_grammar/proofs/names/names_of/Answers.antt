use Rattle.std.proofs.Common.{subst, sym, take, ◌+◌}
use Rattle.policy_grammar.specs.CoreOf.{AreNamesOf}
use Rattle.policy_grammar.proofs.Lists.{names-step}
use Rattle.policy_grammar.proofs.names.names_of.Goals as goal

pub loop-place-preserved : goal.loop-place-preserved
loop-place-preserved c =
    let trees = c.args.trees.now in
    subst (AreNamesOf c.args.text.now (take (c.loop-place.place + 1) trees)) (sym c.in_ok-push.ensures.items)
    (names-step c.args.text.now trees c.loop-place.names.items c.loop-place.place c.index-trees-place.result c.in_ok-name.name c.loop-place.invariant
    c.loop-place-test.true c.index-trees-place.is c.in_ok-name.ensures)
