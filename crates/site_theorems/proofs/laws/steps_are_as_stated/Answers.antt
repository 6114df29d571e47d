use Rattle.site_theorems.proofs.Stepping.{steps_agree}
use Rattle.site_theorems.proofs.laws.steps_are_as_stated.Goals as goal

pub returns : goal.returns
returns c = steps_agree (record {
  entities = c.entities_are_read_as_stated.ensures.read;
  requests = c.requests_are_read_as_stated.ensures.read;
  texts = c.entity_texts_are_read_as_stated.ensures;
  summaries = c.summaries_are_read_as_stated.ensures.read;
  messages = c.messages_are_read_as_stated.ensures.read;
  one_uid = c.names_read_back.ensures.one;
  uids = c.names_read_back.ensures.found;
})
