use Rattle.std.proofs.Common.{◌≡◌, List, length, ◌∙◌, ap, sym, arith}
use Rattle.std.proofs.lemmas.List.{nil_from_length}
use Rattle.type_checker.specs.inner.Parts.{map_fields}
use Rattle.type_checker.specs.declared.static_type.StaticType.{StaticType}
use Rattle.type_checker.proofs.RecordFields.{left_of, no_type}
use Rattle.type_checker.proofs.literal_types.typed_fields.Goals as goal

pub returns : goal.returns
returns c =
    let done = map_fields c.loop-ty.map.entries in
    let left = c.loop-ty.ty-iterator.rest.items in
    let none : length left ≡ 0 = omega (arith, c.loop-ty.ty-iterator.rest.ok, c.in-None.ensures.steps.0) in
    sym (c.loop-ty.invariant
    ∙ ap (λ (ts : List StaticType). left_of (λ f. f.name) c.loop-ty.at c.args.fields.now ts done) (nil_from_length left none)
    ∙ no_type (λ f. f.name) c.args.fields.now c.loop-ty.at done)
