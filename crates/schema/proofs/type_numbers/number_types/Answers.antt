use Rattle.std.proofs.Common.{List, map, ◌∙◌, subst}
use Rattle.std.specs.BTreeMap.{get}
use Rattle.ancestor_search.specs.contracts.searched.SearchedAncestry.TheImpl as searched
use Rattle.values.specs.declared.entity_uid.EntityUid.{EntityUid}
use Rattle.values.specs.Names.{uid_cmp}
use Rattle.schema_reading.specs.ResolvedViews.{resolved_entity_type_view}
use Rattle.schema.specs.inner.Numbering.{NumbersAll, AreNames}
use Rattle.schema.proofs.NumberLemmas.{types_numbered}
use Rattle.schema.proofs.type_numbers.number_types.Goals as goal

pub returns : goal.returns
returns c =
    let at = get uid_cmp c.in_ok-above.above.numbers in
    types_numbered (searched.parents-value.it c.args.edges.now) (map resolved_entity_type_view c.args.entity_types.now) at
    (record { numbers = c.in_ok-numbers.numbers; spans = c.in_ok-above.above.spans })
    (subst (λ (us : List EntityUid). NumbersAll us at) (c.as_slice.ensures.value ∙ c.in_ok-uids.ensures) c.in_ok-above.ensures.all)
    c.in_ok-above.ensures.are
    (subst (λ (us : List EntityUid). AreNames at us c.in_ok-numbers.numbers) (c.as_slice-2.ensures.value ∙ c.in_ok-uids.ensures) c.in_ok-numbers.ensures)
