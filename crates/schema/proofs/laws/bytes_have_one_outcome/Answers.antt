use Rattle.schema.proofs.BuiltLemmas.{some_outcome}
use Rattle.schema.proofs.OutcomeLemmas.{never_both, one_cause_only}
use Rattle.schema.proofs.OneSchemaLemmas.{one_schema}
use Rattle.schema.proofs.SchemasRead as stated
use Rattle.schema.proofs.laws.bytes_have_one_outcome.Goals as goal

pub returns-clause-not_both : goal.returns-clause-not_both
returns-clause-not_both c =
    stated.never_both c.schemas_are_read_as_stated.ensures
    (never_both c.one_written.ensures c.files_are_in_order.ensures.once c.one_file.ensures c.not_both.ensures)

pub returns-clause-one_refusal : goal.returns-clause-one_refusal
returns-clause-one_refusal c =
    stated.one_refusal c.schemas_are_read_as_stated.ensures
    (one_cause_only c.one_file.ensures c.not_both.ensures c.one_refusal.ensures)

pub returns-clause-one_schema : goal.returns-clause-one_schema
returns-clause-one_schema c =
    stated.one_schema c.schemas_are_read_as_stated.ensures
    (one_schema c.one_written.ensures c.files_are_in_order.ensures.once c.ascending_lists_are_one.ensures c.one_file.ensures)

pub returns-clause-some_outcome : goal.returns-clause-some_outcome
returns-clause-some_outcome c =
    stated.some_outcome c.schemas_are_read_as_stated.ensures
    (some_outcome c.some_outcome.ensures c.files_are_in_order.ensures.once c.files_name_their_own.ensures c.types_expand_or_some_common_does_not.ensures c.paths_are_decided.ensures)
