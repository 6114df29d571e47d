use Rattle.serde_json.specs.View.{view}
use Rattle.schema.specs.Views.{schema_view}
use Rattle.entities.proofs.AsStatedLemmas.{as_stated}
use Rattle.entities.proofs.reading.read_entity.Goals as goal

pub returns-clause-stated : goal.returns-clause-stated
returns-clause-stated c =
    as_stated c.entity_in.result _ _ _ (c.entities_are_read_as_stated.ensures.read (schema_view c.args.schema.now) (view c.args.value.now))
    c.entity_in.ensures
