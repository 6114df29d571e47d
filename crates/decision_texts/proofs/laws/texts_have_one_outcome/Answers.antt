use Rattle.decision_texts.specs.BareReading.{bare_reading}
use Rattle.decision_texts.proofs.BareLemmas.{definite}
use Rattle.decision_texts.proofs.LineOrRefusal.{line_or_refusal}
use Rattle.decision_texts.proofs.OutcomeLemmas.{one_line, not_both, one_refusal, lines_ascend}
use Rattle.decision_texts.proofs.laws.texts_have_one_outcome.Goals as goal

pub returns-clause-one_line : goal.returns-clause-one_line
returns-clause-one_line c =
    one_line (record {
      each = c.file_names_differ.ensures.each;
      differ = c.file_names_differ.ensures.differ;
      files = c.texts_have_one_reading.ensures.file;
      answers = c.answers_are_lawful.ensures.finite;
    }) bare_reading (definite (record {
      names = c.names_read_back.ensures.name;
      found = c.names_read_back.ensures.found;
      uids = c.texts_have_one_reading.ensures.uid;
    }))

pub returns-clause-not_both : goal.returns-clause-not_both
returns-clause-not_both c =
    not_both (record {
      each = c.file_names_differ.ensures.each;
      differ = c.file_names_differ.ensures.differ;
      files = c.texts_have_one_reading.ensures.file;
      answers = c.answers_are_lawful.ensures.finite;
    }) bare_reading (definite (record {
      names = c.names_read_back.ensures.name;
      found = c.names_read_back.ensures.found;
      uids = c.texts_have_one_reading.ensures.uid;
    }))

pub returns-clause-one_refusal : goal.returns-clause-one_refusal
returns-clause-one_refusal c =
    one_refusal (record {
      each = c.file_names_differ.ensures.each;
      differ = c.file_names_differ.ensures.differ;
      files = c.texts_have_one_reading.ensures.file;
      answers = c.answers_are_lawful.ensures.finite;
    }) bare_reading (definite (record {
      names = c.names_read_back.ensures.name;
      found = c.names_read_back.ensures.found;
      uids = c.texts_have_one_reading.ensures.uid;
    }))

pub returns-clause-some : goal.returns-clause-some
returns-clause-some c =
    line_or_refusal (record {
      each = c.file_names_differ.ensures.each;
      differ = c.file_names_differ.ensures.differ;
      files = c.texts_have_one_reading.ensures.file;
      answers = c.answers_are_lawful.ensures.finite;
    }) bare_reading (definite (record {
      names = c.names_read_back.ensures.name;
      found = c.names_read_back.ensures.found;
      uids = c.texts_have_one_reading.ensures.uid;
    }))

pub returns-clause-ascending : goal.returns-clause-ascending
returns-clause-ascending c =
    lines_ascend (record {
      each = c.file_names_differ.ensures.each;
      differ = c.file_names_differ.ensures.differ;
      files = c.texts_have_one_reading.ensures.file;
      answers = c.answers_are_lawful.ensures.finite;
    }) c.answers_are_lawful.ensures.ascending bare_reading
