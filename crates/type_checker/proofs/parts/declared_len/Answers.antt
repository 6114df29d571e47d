use Rattle.type_checker.proofs.FieldLists.{declared_count}
use Rattle.type_checker.proofs.parts.declared_len.Goals as goal

pub returns : goal.returns
returns c = declared_count c.args.fields.now
