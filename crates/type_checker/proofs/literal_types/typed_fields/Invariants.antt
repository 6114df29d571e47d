use Rattle.std.proofs.Common.{◌≡◌}
use Rattle.typing.specs.Types.{no_field_types}
use Rattle.type_checker.specs.inner.Parts.{map_fields}
use Rattle.type_checker.proofs.RecordFields.{left_of}
use Rattle.type_checker.proofs.literal_types.typed_fields.Given as goal

abbrev pub invariant-loop-ty : goal.invariant-loop-ty
invariant-loop-ty l =
    left_of (λ f. f.name) 0 l.fields l.fn.types.items no_field_types
    ≡ left_of (λ f. f.name) l.at l.fields l.ty-iterator.rest.items (map_fields l.map.entries)
