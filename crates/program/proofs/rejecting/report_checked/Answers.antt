use Rattle.std.proofs.Common.{◌&&◌, ◌∙◌, sym}
use Rattle.std.specs.Process.{exit_status}
use Rattle.explanations.specs.Files.{files_of}
use Rattle.explanations.specs.FileExplanations.{IsExplained}
use Rattle.program.specs.Reports.{AreLinesReported}
use Rattle.program.proofs.ExplainedLemmas.{followed, not_followed}
use Rattle.program.proofs.rejecting.report_checked.Goals as goal

pub returns-then-not-is_explained : goal.returns-then-not-is_explained
returns-then-not-is_explained g c =
    not_followed g.H.Host.does _ _ (c.args.explain && c.args.some_refused) (IsExplained (files_of c.args.given.now))
    (AreLinesReported c.args.lines.now c.args.some_refused) (exit_status c.report_lines-end.result) (sym c.is_explained.ensures ∙ c.if-not-is_explained.true)
    c.report_lines-end.ensures

pub returns : goal.returns
returns g c =
    followed g.H.Host.does _ _ _ (c.args.explain && c.args.some_refused) (IsExplained (files_of c.args.given.now))
    (AreLinesReported c.args.lines.now c.args.some_refused) (exit_status c.report_lines-end.result) (sym c.is_explained.ensures ∙ c.if-not-is_explained.false)
    c.report_lines-end.ensures c.explain_given.ensures
