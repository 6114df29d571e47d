use Rattle.std.specs.Process.{exit_status}
use Rattle.explanations.specs.Files.{files_of}
use Rattle.program.specs.ExplainOption.{IsErrorReported}
use Rattle.program.specs.Merging.{IsMergeText}
use Rattle.program.proofs.ExplainedLemmas.{followed}
use Rattle.program.proofs.states.report_unmerged.Goals as goal

pub returns : goal.returns
returns g c =
    followed g.H.Host.does _ _ _ c.args.options.now.explain
    (IsMergeText (files_of c.args.given.now) c.args.options.now c.args.schema.now c.args.first.now c.args.refusal) (IsErrorReported c.args.refusal)
    (exit_status c.report_refusal-end.result) c.if-not-options.false c.report_refusal-end.ensures c.explain_merge.ensures
