use Rattle.std.specs.Prelude.{◌≡◌, ◌↔◌, ◌⊎◌, Contains}
use Rattle.std.proofs.lemmas.Result.{IfOk-weaker}
use Rattle.values.specs.declared.entity_uid.EntityUid.{EntityUid}
use Rattle.evaluator.specs.ancestor_search.Hierarchy.{IsAscending, referenced}
use Rattle.entity_data.specs.Entities.{uids_with}
use Rattle.entity_data.proofs.UidLemmas.{one_list, both_ok}
use Rattle.entity_data.proofs.uids.with_actions.Goals as goal

pub returns-clause-all : goal.returns-clause-all
returns-clause-all g c =
    IfOk-weaker c.together.result _ (λ all. referenced all.items ≡ uids_with (g.A.ActionSource.uids c.args.actions.now) (referenced c.args.kept.items))
    (λ all h. one_list c.ascending_lists_are_one.ensures (g.A.ActionSource.declared c.args.actions.now) (g.A.ActionSource.uids c.args.actions.now) c.actions.result.now (referenced c.args.kept.items) (referenced all.items)
    (g.met.A.ActionSource.listed c.args.actions.now) c.actions.ensures.all h.0 h.1)
    (both_ok c.together.result (λ all. IsAscending (referenced all.items)) (λ all. (u : EntityUid) → Contains (referenced all.items) u ↔ Contains (referenced c.args.kept.items) u ⊎ Contains c.actions.result.now u) c.together.ensures.ascending c.together.ensures.members)
