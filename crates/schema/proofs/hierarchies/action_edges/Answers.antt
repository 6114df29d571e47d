use Rattle.std.proofs.Common.{◌∙◌, ◌+◌, List, map, drop, sym, ap}
use Rattle.std.proofs.lemmas.List.{drop_all}
use Rattle.ancestor_search.specs.Hierarchy.{Parents}
use Rattle.ancestor_search.specs.contracts.searched.SearchedAncestry.TheImpl as searched
use Rattle.schema_reading.specs.ResolvedViews.{resolved_action_view}
use Rattle.schema_reading.specs.declared.qualifying.ResolvedAction.{ResolvedAction}
use Rattle.schema.specs.Schemas.{with_actions}
use Rattle.json_words.proofs.EachSame.{cut}
use Rattle.schema.proofs.hierarchies.action_edges.Goals as goal

pub loop-action-preserved : goal.loop-action-preserved
loop-action-preserved c =
    let i = c.loop-action.action-index in
    let xs = c.args.actions.now in
    ap (λ (ps : Parents). with_actions ps (map resolved_action_view (drop (i + 1) xs))) c.in_ok-set_action.ensures
    ∙ sym (ap (λ (zs : List ResolvedAction). with_actions (searched.parents-value.it c.loop-action.edges) (map resolved_action_view zs)) (cut xs i c.action-item.result c.loop-action-test.true c.action-item.is))
    ∙ c.loop-action.invariant

pub returns : goal.returns
returns c =
    sym (ap (λ (zs : List ResolvedAction). with_actions (searched.parents-value.it c.loop-action.edges) (map resolved_action_view zs)) (drop_all c.loop-action.action-index c.args.actions.now c.loop-action-test.false))
    ∙ c.loop-action.invariant
