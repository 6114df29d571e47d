use Rattle.serde_json.specs.View.{view}
use Rattle.entity_uids.proofs.UidLemmas.{spelled}
use Rattle.entity_uids.proofs.uids.read_either.Goals as goal

pub returns-in-Some : goal.returns-in-Some
returns-in-Some c = spelled (view c.args.value.now) c.in-Some.type_name.now c.in-Some.id.now c.in-Some.ensures c.uid_of.result c.uid_of.ensures
