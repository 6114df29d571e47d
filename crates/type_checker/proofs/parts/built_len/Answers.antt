use Rattle.type_checker.proofs.FieldLists.{built_count}
use Rattle.type_checker.proofs.parts.built_len.Goals as goal

pub returns : goal.returns
returns c = built_count c.args.fields.now
