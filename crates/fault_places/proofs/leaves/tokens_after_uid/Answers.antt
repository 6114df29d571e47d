use Rattle.fault_places.specs.TokenCounts.{path_count}
use Rattle.fault_places.proofs.Dropping.{twice}
use Rattle.fault_places.proofs.leaves.tokens_after_uid.Goals as goal

pub returns : goal.returns
returns c =
    twice c.args.tokens.now c.tokens_after_path.result.now c.skip.result.now (path_count c.args.uid.now.path) 2 c.tokens_after_path.ensures c.skip.ensures
