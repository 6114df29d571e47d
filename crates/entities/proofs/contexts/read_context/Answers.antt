use Rattle.serde_json.specs.View.{view}
use Rattle.schema.specs.Views.{schema_view}
use Rattle.entities.proofs.AsStatedLemmas.{as_stated}
use Rattle.entities.proofs.contexts.read_context.Goals as goal

pub returns-clause-stated : goal.returns-clause-stated
returns-clause-stated c =
    as_stated c.context_in.result _ _ _ (c.contexts_are_read_as_stated.ensures.read (schema_view c.args.schema.now) c.args.action.now (view c.args.value.now))
    c.context_in.ensures
