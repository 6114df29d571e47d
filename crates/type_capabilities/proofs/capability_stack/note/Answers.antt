use Rattle.std.proofs.Common.{Some}
use Rattle.type_capabilities.proofs.Stacked.{noted_so}
use Rattle.type_capabilities.proofs.capability_stack.note.Goals as goal

pub returns-clause-ok : goal.returns-clause-ok
returns-clause-ok c = noted_so c.args.places.now c.insert.new.self c.args.capability (Some c.args.at) c.in_ok-insert.ensures.updates
