use Rattle.std.proofs.Common.{◌∙◌, ap, sym}
use Rattle.ancestor_search.specs.Hierarchy.{with_parents}
use Rattle.ancestor_closure.specs.ClosedMeaning.{closed_parents}
use Rattle.std.proofs.lemmas.Result.{on_ok_weaker, on_err_weaker}
use Rattle.ancestor_closure.proofs.Pairs.{closed_is}
use Rattle.ancestor_closure.proofs.closed.ClosedHierarchy.set_parents.Goals as goal

pub returns-clause-ok : goal.returns-clause-ok
returns-clause-ok c =
    let before = sym (closed_is c.self.inside.edges) ∙ ap closed_parents c.self.view_is in
    on_ok_weaker c.set.result (λ e. closed_is c.set.new.edges ∙ e ∙ ap (λ p. with_parents p c.args.uid c.args.parents.items) before) c.set.ensures.ok

pub returns-clause-err : goal.returns-clause-err
returns-clause-err c =
    let before = sym (closed_is c.self.inside.edges) ∙ ap closed_parents c.self.view_is in
    on_err_weaker c.set.result (λ e. closed_is c.set.new.edges ∙ e ∙ before) c.set.ensures.err
