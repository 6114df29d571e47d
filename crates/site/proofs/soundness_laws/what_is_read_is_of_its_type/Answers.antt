use Rattle.site.proofs.Values.{value_of}
use Rattle.site.proofs.Readings.{records_are_of, entities_are_of, requests_are_of}
use Rattle.site.proofs.soundness_laws.what_is_read_is_of_its_type.Goals as goal

pub returns-clause-values : goal.returns-clause-values
returns-clause-values c = value_of c.sets_hold_their_members.ensures.made

pub returns-clause-records : goal.returns-clause-records
returns-clause-records c = records_are_of c.sets_hold_their_members.ensures.made

pub returns-clause-entities : goal.returns-clause-entities
returns-clause-entities c = entities_are_of c.sets_hold_their_members.ensures.made

pub returns-clause-requests : goal.returns-clause-requests
returns-clause-requests c = requests_are_of c.sets_hold_their_members.ensures.made
