use Rattle.std.proofs.Common.{◌≡◌, ◌∙◌, List, string_bytes, sym, ap, arith}
use Rattle.std.specs.Prelude.{codes}
use Rattle.std.proofs.lemmas.Result.{err_from_is_err_and}
use Rattle.serde_json.specs.Data.{members_depth}
use Rattle.serde_json.specs.View.{view, members_view}
use Rattle.schema_types.specs.Views.{raw_view}
use Rattle.schema_types.specs.TypeShape.{fields_in}
use Rattle.schema_types.proofs.Keyed.{type_of-is, depth_at_key}
use Rattle.schema_types.proofs.Walk.{Entry, with_front, field_goes, field_ends, required_ends, fields_done}
use Rattle.schema_types.proofs.types.+read_type.Goals as goal

pub read_type-returns : goal.read_type-returns
read_type-returns t c = rw (type_of-is c.args.is_attribute (view c.args.value.now)) c.read_formed.ensures

pub read_formed-read_type-requires : goal.read_formed-read_type-requires
read_formed-read_type-requires t c = (omega (arith, depth_at_key (codes "element") (view c.args.value.now) (view c.in-Some.element.now) (sym c.in-Some.ensures)), tt)

pub read_formed-read_attributes-requires : goal.read_formed-read_attributes-requires
read_formed-read_attributes-requires t c = (omega (arith, depth_at_key (codes "attributes") (view c.args.value.now) (view c.in-Some-get.attributes.now) (sym c.in-Some-get.ensures)), tt)

pub read_fields-read_type-requires : goal.read_fields-read_type-requires
read_fields-read_type-requires t c =
    let e : Entry = (c.in-Some.key.now, c.in-Some.member.now) in
    let deep = ap (λ (es : List Entry). members_depth (members_view es)) c.in-Some.ensures.steps in
    (omega (arith, deep, c.loop-key.invariant.left), tt)

pub read_fields-returns-in_err-field : goal.read_fields-returns-in_err-field
read_fields-returns-in_err-field t c =
    let p = err_from_is_err_and c.from_residual.result c.from_residual.ensures.1 in
    let e : Entry = (c.in-Some.key.now, c.in-Some.member.now) in
    let here = c.loop-key.invariant.so_far ∙ ap (λ (es : List Entry). with_front c.loop-key.fields.items (fields_in (members_view es))) c.in-Some.ensures.steps in
    rw (p.1, p.2) (field_ends e c.next.new.self c.loop-key.fields.items _ c.in_err-field.field-0.0 c.in_err-field.ensures here)

pub read_fields-returns-in_err-required : goal.read_fields-returns-in_err-required
read_fields-returns-in_err-required t c =
    let p = err_from_is_err_and c.from_residual-in_err-required.result c.from_residual-in_err-required.ensures.1 in
    let e : Entry = (c.in-Some.key.now, c.in-Some.member.now) in
    let here = c.loop-key.invariant.so_far ∙ ap (λ (es : List Entry). with_front c.loop-key.fields.items (fields_in (members_view es))) c.in-Some.ensures.steps in
    rw (p.1, p.2) (required_ends e c.next.new.self c.loop-key.fields.items (raw_view c.in_ok-field.field) _ c.in_err-required.field-0.0 c.in_ok-field.ensures (λ other. c.in_err-required.ensures) here)

pub read_fields-loop-key-preserved : goal.read_fields-loop-key-preserved
read_fields-loop-key-preserved t c =
    let e : Entry = (c.in-Some.key.now, c.in-Some.member.now) in
    let here = c.loop-key.invariant.so_far ∙ ap (λ (es : List Entry). with_front c.loop-key.fields.items (fields_in (members_view es))) c.in-Some.ensures.steps in
    let deep = ap (λ (es : List Entry). members_depth (members_view es)) c.in-Some.ensures.steps in
    let named : string_bytes c.in_ok-name.name ≡ string_bytes e.0 = c.in_ok-name.ensures.ok ∙ c.as_str.ensures.value in record {
      so_far = rw c.in_ok-push.ensures.items (field_goes e c.next.new.self c.loop-key.fields.items (c.in_ok-name.name, c.in_ok-field.field, c.in_ok-required.required) _ named c.in_ok-field.ensures c.in_ok-required.ensures here);
      left = omega (arith, deep, c.loop-key.invariant.left);
    }

pub read_fields-returns : goal.read_fields-returns
read_fields-returns t c = fields_done c.loop-key.fields.items _
    (c.loop-key.invariant.so_far ∙ ap (λ (es : List Entry). with_front c.loop-key.fields.items (fields_in (members_view es))) c.in-None.ensures.steps.0)
