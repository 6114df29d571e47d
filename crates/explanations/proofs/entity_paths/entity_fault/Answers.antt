use Rattle.std.proofs.Common.{subst}
use Rattle.serde_json.specs.View.{view}
use Rattle.schema_decisions.specs.schema.Views.{schema_view}
use Rattle.explanations.specs.inner.PartFaults.{IsFaultOf}
use Rattle.explanations.proofs.Telling.{entity_told, entity_read, entity_refused}
use Rattle.explanations.proofs.entity_paths.entity_fault.Goals as goal

pub returns-in-Some : goal.returns-in-Some
returns-in-Some c =
    let s = schema_view c.args.schema.now in
    let d = view c.args.value.now in
    entity_told s d c.in-Some.fault c.find_part.result c.at_path.result
    (entity_refused s d c.read_entity-read.result c.in-Some.fault c.read_entity-read.ensures.read (subst (IsFaultOf c.read_entity-read.result) c.in-Some.is c.in-Ok.ensures))
    c.find_part.ensures c.at_path.ensures

pub returns-in-None : goal.returns-in-None
returns-in-None c =
    entity_read (schema_view c.args.schema.now) (view c.args.value.now) c.read_entity-read.result c.read_entity-read.ensures.read (subst (IsFaultOf c.read_entity-read.result) c.in-None.is c.in-Ok.ensures)

pub returns-in-Err : goal.returns-in-Err
returns-in-Err c = tt
