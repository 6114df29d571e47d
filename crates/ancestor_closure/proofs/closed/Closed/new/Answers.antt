use Rattle.std.proofs.Common.{sym, subst}
use Rattle.ancestor_closure.specs.CacheOf.{IsCacheOf}
use Rattle.ancestor_closure.proofs.Pairs.{none_stored}
use Rattle.ancestor_closure.proofs.closed.Closed.new.Goals as goal

pub invariant_of-result : goal.invariant_of-result
invariant_of-result c = subst (λ p. IsCacheOf p c.new-2.result) (sym (none_stored c.new.result c.new.ensures.empty)) c.new-2.ensures
