use Rattle.ancestor_search.proofs.Bridge.{number_found, number_none}
use Rattle.ancestor_search.proofs.lists.number_of.Goals as goal

pub returns-in-Ok : goal.returns-in-Ok
returns-in-Ok c = number_found c.args.uids.now c.args.uid.now c.in-Ok.number c.in-Ok.ensures.bound c.in-Ok.ensures.position

pub returns-in-Err : goal.returns-in-Err
returns-in-Err c = number_none c.args.uids.now c.args.uid.now c.in-Err.field-0 c.requires c.in-Err.ensures.position
