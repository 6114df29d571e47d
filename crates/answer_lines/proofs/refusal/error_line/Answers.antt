use Rattle.std.proofs.lemmas.Result.{IfOk-weaker}
use Rattle.serde_json.specs.View.{view}
use Rattle.json_words.proofs.CompactLemmas.{text_of}
use Rattle.answer_lines.specs.Refusals.{refusal_json, error_line}
use Rattle.answer_lines.proofs.RefusalLemmas.{no_float}
use Rattle.answer_lines.proofs.refusal.error_line.Goals as goal

pub returns : goal.returns
unfolding error_line
returns c = IfOk-weaker c.write_json.result _ _ (λ b text. text_of b.items (view c.in_ok-value.value) (refusal_json c.args.refusal) c.in_ok-value.ensures (no_float c.args.refusal) text) c.write_json.ensures.text
