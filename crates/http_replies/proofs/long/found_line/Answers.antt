use Rattle.std.proofs.lemmas.Result.{IfOk-weaker}
use Rattle.serde_json.specs.View.{view}
use Rattle.json_words.proofs.CompactLemmas.{text_of}
use Rattle.http_replies.specs.Lines.{found_json, found_line}
use Rattle.http_replies.proofs.LineLemmas.{no_float}
use Rattle.http_replies.proofs.long.found_line.Goals as goal

pub returns : goal.returns
unfolding found_line
returns c =
    IfOk-weaker c.write_json.result _ _
    (λ b text. text_of b.items (view c.in_ok-value.value) (found_json c.args.policy.now c.args.stamp)
    c.in_ok-value.ensures
    (no_float c.args.policy.now c.args.stamp) text)
    c.write_json.ensures.text
