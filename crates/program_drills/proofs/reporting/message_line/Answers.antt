use Rattle.std.proofs.lemmas.Result.{IfOk-weaker}
use Rattle.serde_json.specs.View.{view}
use Rattle.json_words.proofs.CompactLemmas.{text_of}
use Rattle.program_drills.specs.EventReports.{message_json, message_line}
use Rattle.program_drills.proofs.EndedLines.{no_float_message}
use Rattle.program_drills.proofs.reporting.message_line.Goals as goal

pub returns : goal.returns
unfolding message_line
returns c =
    IfOk-weaker c.write_json.result _ _
    (λ b text. text_of b.items (view c.in_ok-value.value) (message_json c.args.number) c.in_ok-value.ensures (no_float_message c.args.number) text)
    c.write_json.ensures.text
