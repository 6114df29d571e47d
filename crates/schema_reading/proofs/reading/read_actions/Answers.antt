use Rattle.std.proofs.Common.{◌∙◌, List, map, ap}
use Rattle.std.proofs.lemmas.Result.{err_from_is_err_and}
use Rattle.serde_json.specs.View.{members_view}
use Rattle.schema_types.specs.declared.fault.SchemaFault.TheVariants.{NoMemory}
use Rattle.json_words.specs.Each.{each_member}
use Rattle.schema_reading.specs.FileForm.{action_of, actions_of}
use Rattle.schema_reading.specs.inner.StatedViews.{action_view}
use Rattle.json_words.proofs.MembersLemmas.{Entry, after, members_begin, member_goes, member_fails, members_done}
use Rattle.schema_reading.proofs.reading.read_actions.Goals as goal

pub loop-key-init : goal.loop-key-init
loop-key-init c = members_begin action_view action_of c.new-actions.result c.args.members.now.entries c.iter-key-items.result c.into_iter-key-iterator.result c.new-actions.ensures c.into_iter-key-iterator.ensures.into_iter_gives c.iter-key-items.ensures.rest

pub returns-in_err-one : goal.returns-in_err-one
unfolding actions_of
returns-in_err-one c =
    let p = err_from_is_err_and c.from_residual.result c.from_residual.ensures.1 in
    let e : Entry = (c.in-Some.key.now, c.in-Some.value.now) in
    let here = c.loop-key.invariant ∙ ap (λ (es : List Entry). after (map action_view c.loop-key.actions) (each_member action_of (members_view es))) c.in-Some.ensures.steps in
    rw (p.1, p.2) (member_fails action_view action_of e c.next.new.self c.loop-key.actions NoMemory c.in_err-one.field-0.0 _ _ c.as_str.ensures.value c.in_err-one.ensures here)

pub loop-key-preserved : goal.loop-key-preserved
loop-key-preserved c =
    let e : Entry = (c.in-Some.key.now, c.in-Some.value.now) in
    let here = c.loop-key.invariant ∙ ap (λ (es : List Entry). after (map action_view c.loop-key.actions) (each_member action_of (members_view es))) c.in-Some.ensures.steps in
    rw c.in_ok-push.ensures.ok (member_goes action_view action_of e c.next.new.self c.loop-key.actions c.in_ok-one.one _ _ c.as_str.ensures.value c.in_ok-one.ensures here)

pub returns : goal.returns
unfolding actions_of
returns c = members_done action_view action_of c.loop-key.actions _
    (c.loop-key.invariant ∙ ap (λ (es : List Entry). after (map action_view c.loop-key.actions) (each_member action_of (members_view es))) c.in-None.ensures.steps.0)
