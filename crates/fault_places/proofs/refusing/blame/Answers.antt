use Rattle.type_checker.specs.schema.Views.{schema_view}
use Rattle.fault_places.proofs.Telling.{told_name, told_typing, told_passes}
use Rattle.fault_places.proofs.refusing.blame.Goals as goal

pub returns-in-Ok-Some : goal.returns-in-Ok-Some
returns-in-Ok-Some c =
    told_name (schema_view c.args.schema.now) c.args.policy.now c.args.whole.now c.requires c.in-Ok-Some.name
    (rw c.in-Ok-Some.field-0-is at c.in-Ok-Some.ensures)

pub returns-in-Ok-Some-blame_type : goal.returns-in-Ok-Some-blame_type
returns-in-Ok-Some-blame_type c =
    told_typing (schema_view c.args.schema.now) c.args.policy.now c.args.whole.now c.requires c.in-Ok-Some-blame_type.error
    (rw c.in-Ok-None.field-0-is at c.in-Ok-None.ensures) (rw c.in-Ok-Some-blame_type.field-0-is at c.in-Ok-Some-blame_type.ensures)

pub returns-in-Ok-None-blame_type : goal.returns-in-Ok-None-blame_type
returns-in-Ok-None-blame_type c =
    told_passes (schema_view c.args.schema.now) c.args.policy.now c.args.whole.now c.requires
    (rw c.in-Ok-None.field-0-is at c.in-Ok-None.ensures) (rw c.in-Ok-None-blame_type.field-0-is at c.in-Ok-None-blame_type.ensures)
