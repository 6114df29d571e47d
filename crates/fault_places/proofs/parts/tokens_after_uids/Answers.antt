use Rattle.std.proofs.Common.{refl, ◌∙◌, ◌+◌}
use Rattle.fault_places.specs.TokenCounts.{each_count, uid_count}
use Rattle.fault_places.proofs.Dropping.{twice, turned}
use Rattle.fault_places.proofs.parts.tokens_after_uids.Goals as goal

pub loop-uid-preserved : goal.loop-uid-preserved
loop-uid-preserved c =
    turned each_count uid_count (λ n. n + 1) (λ n ns. refl) c.args.uids.now c.loop-uid.uid-index c.uid-item.result c.loop-uid.rest.now c.skip-rest.result.now c.uid-item.is c.loop-uid-test.true
    (twice c.loop-uid.rest.now c.tokens_after_uid.result.now c.skip-rest.result.now (uid_count c.uid-item.result) 1 c.tokens_after_uid.ensures c.skip-rest.ensures) ∙ c.loop-uid.invariant
