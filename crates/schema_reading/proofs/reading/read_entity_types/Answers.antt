use Rattle.std.proofs.Common.{◌∙◌, List, map, ap}
use Rattle.std.proofs.lemmas.Result.{err_from_is_err_and}
use Rattle.serde_json.specs.View.{members_view}
use Rattle.schema_types.specs.declared.fault.SchemaFault.TheVariants.{NoMemory}
use Rattle.json_words.specs.Each.{each_member}
use Rattle.schema_reading.specs.FileForm.{entity_type_of, entity_types_of}
use Rattle.schema_reading.specs.inner.StatedViews.{entity_type_view}
use Rattle.json_words.proofs.MembersLemmas.{Entry, after, members_begin, member_goes, member_fails, members_done}
use Rattle.schema_reading.proofs.reading.read_entity_types.Goals as goal

pub loop-key-init : goal.loop-key-init
loop-key-init c = members_begin entity_type_view entity_type_of c.new-entity_types.result c.args.members.now.entries c.iter-key-items.result c.into_iter-key-iterator.result c.new-entity_types.ensures c.into_iter-key-iterator.ensures.into_iter_gives c.iter-key-items.ensures.rest

pub returns-in_err-one : goal.returns-in_err-one
unfolding entity_types_of
returns-in_err-one c =
    let p = err_from_is_err_and c.from_residual.result c.from_residual.ensures.1 in
    let e : Entry = (c.in-Some.key.now, c.in-Some.value.now) in
    let here = c.loop-key.invariant ∙ ap (λ (es : List Entry). after (map entity_type_view c.loop-key.entity_types) (each_member entity_type_of (members_view es))) c.in-Some.ensures.steps in
    rw (p.1, p.2) (member_fails entity_type_view entity_type_of e c.next.new.self c.loop-key.entity_types NoMemory c.in_err-one.field-0.0 _ _ c.as_str.ensures.value c.in_err-one.ensures here)

pub loop-key-preserved : goal.loop-key-preserved
loop-key-preserved c =
    let e : Entry = (c.in-Some.key.now, c.in-Some.value.now) in
    let here = c.loop-key.invariant ∙ ap (λ (es : List Entry). after (map entity_type_view c.loop-key.entity_types) (each_member entity_type_of (members_view es))) c.in-Some.ensures.steps in
    rw c.in_ok-push.ensures.ok (member_goes entity_type_view entity_type_of e c.next.new.self c.loop-key.entity_types c.in_ok-one.one _ _ c.as_str.ensures.value c.in_ok-one.ensures here)

pub returns : goal.returns
unfolding entity_types_of
returns c = members_done entity_type_view entity_type_of c.loop-key.entity_types _
    (c.loop-key.invariant ∙ ap (λ (es : List Entry). after (map entity_type_view c.loop-key.entity_types) (each_member entity_type_of (members_view es))) c.in-None.ensures.steps.0)
