use Rattle.std.proofs.Common.{sym, subst}
use Rattle.ancestor_closure.specs.CacheOf.{IsCacheOf}
use Rattle.ancestor_closure.proofs.Pairs.{edges_gone}
use Rattle.ancestor_closure.proofs.closed.unset.Goals as goal

pub returns-clause-ok : goal.returns-clause-ok
returns-clause-ok c = edges_gone c.args.edges.now c.remove.new.self c.args.uid.now c.remove.ensures.updates.0

pub returns-clause-kept : goal.returns-clause-kept
returns-clause-kept c =
    subst (λ p. IsCacheOf p c.follow_change.new.kept) (sym (edges_gone c.args.edges.now c.remove.new.self c.args.uid.now c.remove.ensures.updates.0)) c.in_ok-follow_change.ensures.ok
