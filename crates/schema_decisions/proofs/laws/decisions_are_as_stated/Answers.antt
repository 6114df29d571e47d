use Rattle.schema_decisions.proofs.StatedLemmas.{decisions_as_stated}
use Rattle.schema_decisions.proofs.laws.decisions_are_as_stated.Goals as goal

pub returns : goal.returns
returns c = decisions_as_stated (record {
  entities = c.entities_are_read_as_stated.ensures.read;
  requests = c.requests_are_read_as_stated.ensures.read;
})
