use Rattle.std.proofs.Common.{◌≡◌, drop}
use Rattle.typing.specs.Types.{field_declared_at}
use Rattle.type_checker.specs.inner.Parts.{built_view, has_shared_field}
use Rattle.type_checker.proofs.fields.found_built.Given as goal

abbrev pub invariant-loop-field : goal.invariant-loop-field
invariant-loop-field l =
    (field_declared_at l.key (built_view l.fields) ≡ field_declared_at l.key (built_view (drop l.field-index l.fields)))
    × (has_shared_field l.key l.fields ≡ has_shared_field l.key (drop l.field-index l.fields))
