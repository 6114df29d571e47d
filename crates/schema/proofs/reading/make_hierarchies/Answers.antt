use Rattle.std.proofs.Common.{List, map, subst}
use Rattle.std.specs.BTreeMap.{get}
use Rattle.values.specs.declared.entity_uid.EntityUid.{EntityUid}
use Rattle.values.specs.Names.{uid_cmp}
use Rattle.ancestor_search.specs.Hierarchy.{Parents, no_parents}
use Rattle.ancestor_search.specs.contracts.searched.SearchedAncestry.TheImpl as searched
use Rattle.schema_reading.specs.ResolvedViews.{resolved_view, resolved_entity_type_view, resolved_action_view}
use Rattle.schema_reading.specs.declared.qualifying.ResolvedEntityType.{ResolvedEntityType}
use Rattle.schema_reading.specs.declared.qualifying.ResolvedAction.{ResolvedAction}
use Rattle.schema.specs.Schemas.{with_types}
use Rattle.schema.specs.inner.Making.{AreMembers}
use Rattle.schema.specs.inner.Numbering.{NumbersAll, AreAncestors, AreNumbers}
use Rattle.schema.proofs.reading.make_hierarchies.Goals as goal

pub returns : goal.returns
returns c =
    let s = resolved_view c.args.found.now in
    let types = c.in_ok-types.types in
    let above = c.in_ok-above.above in
    let at = get uid_cmp above.numbers in
    let by_slice = subst (λ (ps : Parents). AreNumbers ps (map resolved_entity_type_view c.as_slice-entity_types.result.now) types) c.in_ok-type_edges.ensures c.in_ok-types.ensures in
    let by_edges = subst (λ (xs : List ResolvedAction). AreMembers (searched.parents-value.it c.args.edges.now) (map resolved_action_view xs) c.in_ok-members.members) c.as_slice-actions.ensures c.in_ok-members.ensures in
    record {
      members = subst (λ (ps : Parents). AreMembers ps s.actions c.in_ok-members.members) c.requires.are by_edges;
      actions = c.in_ok-uids.ensures.items;
      ascending = c.in_ok-uids.ensures.ascending;
      above = subst (λ (ps : Parents). AreAncestors ps at above.spans) c.requires.are c.in_ok-above.ensures.are;
      numbered = subst (λ (us : List EntityUid). NumbersAll us at) c.as_slice.ensures c.in_ok-above.ensures.all;
      types = subst (λ (xs : List ResolvedEntityType). AreNumbers (with_types no_parents (map resolved_entity_type_view xs)) (map resolved_entity_type_view xs) types) c.as_slice-entity_types.ensures by_slice;
    }
