use Rattle.std.proofs.Common.{◌∙◌}
use Rattle.scope_index.proofs.Filing.{emptied}
use Rattle.scope_index.proofs.buckets.take_named.Goals as goal

pub returns-then-remove_from_bucket : goal.returns-then-remove_from_bucket
returns-then-remove_from_bucket c = λ u q.
    emptied c.args.entity.now c.remove_from_bucket.new.named c.remove.new.self (λ v. c.remove.ensures.updates.0 v)
    (c.remove_from_bucket.ensures.none c.if-remove_from_bucket.true) u q ∙ c.remove_from_bucket.ensures.turns u q
