use Rattle.std.proofs.Common.{length, refl}
use Rattle.std.proofs.lemmas.Option.{slice_get_read, slice_get_past}
use Rattle.type_checker.proofs.FieldPlaces.{declared_some, declared_none}
use Rattle.type_checker.proofs.parts.declared_field_at.Goals as goal

pub returns-in-Some : goal.returns-in-Some
returns-in-Some c =
    let fs = c.args.fields.now in
    let found = c.in-Some.ensures.lookup in
    rw c.as_str.ensures (declared_some fs c.args.at c.in-Some.field.now
    (slice_get_read fs (length fs) c.args.at c.in-Some.field.now refl found.3.0 found.1))

pub returns-in-None : goal.returns-in-None
returns-in-None c =
    declared_none c.args.fields.now c.args.at (slice_get_past c.args.fields.now c.args.at c.in-None.ensures.lookup.3)
