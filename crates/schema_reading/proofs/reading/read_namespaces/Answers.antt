use Rattle.std.proofs.Common.{◌∙◌, List, map, ap}
use Rattle.std.proofs.lemmas.Result.{err_from_is_err_and}
use Rattle.serde_json.specs.View.{members_view}
use Rattle.schema_types.specs.declared.fault.SchemaFault.TheVariants.{NoMemory}
use Rattle.json_words.specs.Each.{each_member}
use Rattle.schema_reading.specs.FileForm.{namespace_of, namespaces_of}
use Rattle.schema_reading.specs.inner.StatedViews.{namespace_view}
use Rattle.json_words.proofs.MembersLemmas.{Entry, after, members_begin, member_goes, member_fails, members_done}
use Rattle.schema_reading.proofs.reading.read_namespaces.Goals as goal

pub loop-key-init : goal.loop-key-init
loop-key-init c = members_begin namespace_view namespace_of c.new-namespaces.result c.args.members.now.entries c.iter-key-items.result c.into_iter-key-iterator.result c.new-namespaces.ensures c.into_iter-key-iterator.ensures.into_iter_gives c.iter-key-items.ensures.rest

pub returns-in_err-one : goal.returns-in_err-one
unfolding namespaces_of
returns-in_err-one c =
    let p = err_from_is_err_and c.from_residual.result c.from_residual.ensures.1 in
    let e : Entry = (c.in-Some.key.now, c.in-Some.value.now) in
    let here = c.loop-key.invariant ∙ ap (λ (es : List Entry). after (map namespace_view c.loop-key.namespaces) (each_member namespace_of (members_view es))) c.in-Some.ensures.steps in
    rw (p.1, p.2) (member_fails namespace_view namespace_of e c.next.new.self c.loop-key.namespaces NoMemory c.in_err-one.field-0.0 _ _ c.as_str.ensures.value c.in_err-one.ensures here)

pub loop-key-preserved : goal.loop-key-preserved
loop-key-preserved c =
    let e : Entry = (c.in-Some.key.now, c.in-Some.value.now) in
    let here = c.loop-key.invariant ∙ ap (λ (es : List Entry). after (map namespace_view c.loop-key.namespaces) (each_member namespace_of (members_view es))) c.in-Some.ensures.steps in
    rw c.in_ok-push.ensures.ok (member_goes namespace_view namespace_of e c.next.new.self c.loop-key.namespaces c.in_ok-one.one _ _ c.as_str.ensures.value c.in_ok-one.ensures here)

pub returns : goal.returns
unfolding namespaces_of
returns c = members_done namespace_view namespace_of c.loop-key.namespaces _
    (c.loop-key.invariant ∙ ap (λ (es : List Entry). after (map namespace_view c.loop-key.namespaces) (each_member namespace_of (members_view es))) c.in-None.ensures.steps.0)
