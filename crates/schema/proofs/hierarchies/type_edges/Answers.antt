use Rattle.std.proofs.Common.{◌∙◌, ◌+◌, List, map, drop, sym, ap}
use Rattle.std.proofs.lemmas.List.{drop_all}
use Rattle.ancestor_search.specs.Hierarchy.{Parents}
use Rattle.ancestor_search.specs.contracts.searched.SearchedAncestry.TheImpl as searched
use Rattle.schema_reading.specs.ResolvedViews.{resolved_entity_type_view}
use Rattle.schema_reading.specs.declared.qualifying.ResolvedEntityType.{ResolvedEntityType}
use Rattle.schema.specs.Schemas.{with_types}
use Rattle.json_words.proofs.EachSame.{cut}
use Rattle.schema.proofs.hierarchies.type_edges.Goals as goal

pub loop-entity_type-preserved : goal.loop-entity_type-preserved
loop-entity_type-preserved c =
    let i = c.loop-entity_type.entity_type-index in
    let xs = c.args.entity_types.now in
    ap (λ (ps : Parents). with_types ps (map resolved_entity_type_view (drop (i + 1) xs))) c.in_ok-set_type.ensures
    ∙ sym (ap (λ (zs : List ResolvedEntityType). with_types (searched.parents-value.it c.loop-entity_type.edges) (map resolved_entity_type_view zs)) (cut xs i c.entity_type-item.result c.loop-entity_type-test.true c.entity_type-item.is))
    ∙ c.loop-entity_type.invariant

pub returns : goal.returns
returns c =
    sym (ap (λ (zs : List ResolvedEntityType). with_types (searched.parents-value.it c.loop-entity_type.edges) (map resolved_entity_type_view zs)) (drop_all c.loop-entity_type.entity_type-index c.args.entity_types.now c.loop-entity_type-test.false))
    ∙ c.loop-entity_type.invariant
