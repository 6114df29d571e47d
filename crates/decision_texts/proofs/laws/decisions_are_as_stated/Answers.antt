use Rattle.decision_texts.specs.BareReading.{bare_reading}
use Rattle.decision_texts.specs.DecisionLaws.{bare_setting}
use Rattle.decision_texts.proofs.BareAsStated.{agrees}
use Rattle.decision_texts.proofs.StatedDecided.{as_stated}
use Rattle.decision_texts.proofs.laws.decisions_are_as_stated.Goals as goal

pub returns : goal.returns
returns c =
    as_stated bare_reading bare_setting (agrees (record {
      one = c.names_read_back.ensures.one;
      found = c.names_read_back.ensures.found;
      lists = c.ascending_lists_are_one.ensures;
    }))
