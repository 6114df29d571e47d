use Rattle.std.proofs.Common.{ℕ, List, subst}
use Rattle.json_words.specs.ReadsAs.{ReadsAs}
use Rattle.sync_format.specs.declared.fault.MessageFault.TheVariants.{NoMemory}
use Rattle.sync_format.specs.Summaries.{summary_stated}
use Rattle.validator.specs.schema.Views.{schema_view}
use Rattle.sync_messages.proofs.SummaryStated.{summary_as_stated}
use Rattle.sync_messages.proofs.messages.read_summary.Goals as goal

pub returns-clause-read : goal.returns-clause-read
returns-clause-read c =
    subst (λ (label : List ℕ). ReadsAs NoMemory (λ m. m) c.read_summary.result (summary_stated label c.args.bytes.now)) c.label.ensures c.read_summary.ensures

pub returns-clause-stated : goal.returns-clause-stated
returns-clause-stated c =
    summary_as_stated c.read_summary.result _ _ _
    (c.summaries_are_read_as_stated.ensures.read (schema_view c.args.schema.now).label c.args.bytes.now) (returns-clause-read c)
