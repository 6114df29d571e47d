use Rattle.std.proofs.Common.{◌≡◌, ap, ◌∙◌}
use Rattle.std.proofs.lemmas.Result.{IfOk-weaker}
use Rattle.ancestor_search.specs.Hierarchy.{referenced}
use Rattle.ancestor_closure.specs.Lists.{IsListOf}
use Rattle.ancestor_closure.proofs.lists.list_of.Goals as goal

pub returns : goal.returns
returns g c = IfOk-weaker c.shared_all.result (λ v. v.items ≡ referenced c.deref.result.now) (λ v. IsListOf (g.G.ParentsOf.parents c.args.graph.now) c.args.uid.now v.items) (λ v e.
    let same : v.items ≡ referenced c.in_ok-found.found.items = e ∙ ap referenced c.deref.ensures.value in
    (λ a. rw same (c.in_ok-found.ensures.all a), rw same c.in_ok-found.ensures.ascending)) c.shared_all.ensures
