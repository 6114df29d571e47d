use Rattle.schema_types.specs.Actions.{action_type, action_uid}
use Rattle.schema_reading.proofs.AddLemmas.{uid_added}
use Rattle.schema_reading.proofs.declaring.add_action.Goals as goal

pub returns : goal.returns
returns c = uid_added c.args.declared.now c.insert.new.self _ (action_uid (action_type c.args.own.now) c.args.action.now.id) c.in_ok-uid.ensures c.in_ok-insert.ensures.updates
