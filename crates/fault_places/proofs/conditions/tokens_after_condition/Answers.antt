use Rattle.std.proofs.Common.{◌+◌}
use Rattle.fault_places.specs.TokenCounts.{tree_count}
use Rattle.fault_places.proofs.Dropping.{twice}
use Rattle.fault_places.proofs.conditions.tokens_after_condition.Goals as goal

pub returns : goal.returns
returns c =
    let n = tree_count c.args.condition.now.expression in
    twice c.args.tokens.now c.tokens_after_tree.result.now c.skip-2.result.now (2 + n) 1
    (twice c.args.tokens.now c.skip.result.now c.tokens_after_tree.result.now 2 n c.skip.ensures c.tokens_after_tree.ensures) c.skip-2.ensures
