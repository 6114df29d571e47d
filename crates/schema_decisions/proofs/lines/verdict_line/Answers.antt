use Rattle.std.proofs.lemmas.Result.{IfOk-weaker}
use Rattle.serde_json.specs.View.{view}
use Rattle.json_words.proofs.CompactLemmas.{text_of}
use Rattle.schema_decisions.specs.Lines.{verdict_json, verdict_line}
use Rattle.schema_decisions.specs.inner.Named.{outcome_of}
use Rattle.schema_decisions.proofs.LineLemmas.{no_float}
use Rattle.schema_decisions.proofs.lines.verdict_line.Goals as goal

pub returns : goal.returns
unfolding verdict_line
returns c =
    let outcome = outcome_of c.args.verdict in
    IfOk-weaker c.write_json.result _ _ (λ b text.
    text_of b.items (view c.in_ok-value.value) (verdict_json c.args.id.now outcome) c.in_ok-value.ensures (no_float c.args.id.now outcome) text)
    c.write_json.ensures.text
