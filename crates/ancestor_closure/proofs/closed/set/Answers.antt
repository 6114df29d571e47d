use Rattle.std.proofs.Common.{◌∙◌, ap, sym, subst}
use Rattle.ancestor_search.specs.Hierarchy.{with_parents}
use Rattle.ancestor_search.specs.Search.{parents_of}
use Rattle.ancestor_closure.specs.CacheOf.{IsCacheOf}
use Rattle.ancestor_closure.proofs.closed.set.Goals as goal

pub returns-in_err-reserve_edges-clause-kept : goal.returns-in_err-reserve_edges-clause-kept
returns-in_err-reserve_edges-clause-kept c = subst (λ p. IsCacheOf p c.args.kept.now) (sym c.reserve_edges.ensures.same) c.requires

pub follow_change-requires : goal.follow_change-requires
follow_change-requires c = subst (λ p. IsCacheOf p c.args.kept.now) (sym c.reserve_edges.ensures.same) c.requires

pub returns-in-Ok-clause-kept : goal.returns-in-Ok-clause-kept
returns-in-Ok-clause-kept c =
    let wrote = c.release_edges.ensures ∙ c.write_edges.ensures in
    subst (λ p. IsCacheOf p c.follow_change.new.kept) (sym wrote)
    (subst (λ ps. IsCacheOf (with_parents (parents_of c.reserve_edges.new.edges) c.args.uid.now ps) c.follow_change.new.kept) c.deref.ensures.value c.in-Ok.ensures.ok)

pub returns-in-Ok-clause-ok : goal.returns-in-Ok-clause-ok
returns-in-Ok-clause-ok c =
    c.release_edges.ensures ∙ c.write_edges.ensures ∙ ap (λ p. with_parents p c.args.uid.now c.args.parents.items) c.reserve_edges.ensures.same

pub returns-in-Err-clause-kept : goal.returns-in-Err-clause-kept
returns-in-Err-clause-kept c = subst (λ p. IsCacheOf p c.follow_change.new.kept) (sym c.release_edges-in-Err.ensures) c.in-Err.ensures.err

pub returns-in-Err-clause-err : goal.returns-in-Err-clause-err
returns-in-Err-clause-err c = c.release_edges-in-Err.ensures ∙ c.reserve_edges.ensures.same
