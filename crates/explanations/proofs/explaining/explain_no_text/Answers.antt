use Rattle.std.proofs.Common.{◌≡◌, ◌∙◌, ap, None, string_bytes}
use Rattle.schema_decisions.specs.answer_lines.declared.refusal.Refusal.{Refusal}
use Rattle.explanations.specs.FileExplanations.{not_utf8_words}
use Rattle.explanations.proofs.Appending.{on_ok}
use Rattle.explanations.proofs.Joining.{no_utf8, whole_told}
use Rattle.explanations.proofs.explaining.explain_no_text.Goals as goal

pub returns-in-Ok : goal.returns-in-Ok
returns-in-Ok c = λ valid. absurd (no_utf8 c.args.source.text.now c.args.at valid c.in-Ok.ensures.read.utf8)

pub returns-in_ok-words-in-Err : goal.returns-in_ok-words-in-Err
returns-in_ok-words-in-Err c = λ valid.
    on_ok c.push_refusal.result c.push_refusal.ensures (λ told.
    let whole = whole_told c.args.source.name.now (string_bytes c.args.out.now) (string_bytes c.push_refusal.new.out) c.in-Err.refusal.code None c.as_str.result.now
    (λ w. w ≡ not_utf8_words c.args.at) (c.as_str.ensures.value ∙ c.in_ok-words-in-Err.ensures.ok) told.1 in (
      whole.0,
      record {
        at = c.args.at;
        is_utf8_before = valid;
        r = c.in-Err.refusal;
        is_refused = c.in-Err.ensures.refused (λ e. told.0 (ap (λ (r : Refusal). record { code = r.code; place = None; within = r.within }) e));
        is_text = whole.1;
      },
      whole.2,
    ))
