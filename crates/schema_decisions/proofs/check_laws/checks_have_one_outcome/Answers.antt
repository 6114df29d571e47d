use Rattle.schema_decisions.proofs.CheckOutcomeLemmas.{one_outcome}
use Rattle.schema_decisions.proofs.check_laws.checks_have_one_outcome.Goals as goal

pub returns : goal.returns
returns c =
    one_outcome (record {
      schema_some = c.bytes_have_one_outcome.ensures.some_outcome;
      schema_one = c.bytes_have_one_outcome.ensures.one_schema;
      schema_not_both = c.bytes_have_one_outcome.ensures.not_both;
      schema_one_refusal = c.bytes_have_one_outcome.ensures.one_refusal;
      files = c.texts_have_one_reading.ensures.file;
      verdicts = c.policies_have_one_outcome.ensures.one;
    })
