use Rattle.ancestor_closure.proofs.Whole.{err_always}
use Rattle.ancestor_closure.proofs.ancestor_cache.AncestorCache.follow.Goals as goal

pub follow-requires : goal.follow-requires
follow-requires g c = record { before = c.requires.before; kept = c.requires.kept; others = c.requires.others }

pub returns-in_err-self-clause-err : goal.returns-in_err-self-clause-err
returns-in_err-self-clause-err g c = err_always c.from_residual.result c.in_err-self.ensures.err
