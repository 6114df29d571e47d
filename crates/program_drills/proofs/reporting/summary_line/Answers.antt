use Rattle.std.proofs.lemmas.Result.{IfOk-weaker}
use Rattle.serde_json.specs.View.{view}
use Rattle.json_words.proofs.CompactLemmas.{text_of}
use Rattle.program_drills.specs.EventReports.{summary_json, summary_line}
use Rattle.program_drills.proofs.EndedLines.{no_float_summary}
use Rattle.program_drills.proofs.reporting.summary_line.Goals as goal

pub returns : goal.returns
unfolding summary_line
returns c =
    IfOk-weaker c.write_json.result _ _
    (λ b text. text_of b.items (view c.in_ok-value.value) (summary_json c.args.number) c.in_ok-value.ensures (no_float_summary c.args.number) text)
    c.write_json.ensures.text
