use Rattle.std.proofs.Common.{◌∙◌, ◌++◌, ap, refl, rules, string_bytes}
use Rattle.explanations.specs.TextParts.{entry_words}
use Rattle.explanations.proofs.Joining.{message_alone}
use Rattle.explanations.proofs.messages.explain_message.Goals as goal
use Rattle.schema_decisions.specs.answer_lines.Refusals.{number_in}

pub returns : goal.returns
returns c =
    let e = c.in_ok-push_whole.ensures in
    message_alone c.args.name.now c.as_str.result.now (string_bytes c.new-out.result) (string_bytes c.push_whole.new.out) c.args.refusal
    (search rules)
    (c.as_str.ensures.value ∙ (c.in_ok-push_entry.ensures ∙ ap (λ l. l ++ entry_words (number_in c.args.refusal.place) c.args.refusal.within) c.new-words.ensures.bytes))
    (e.0, record { finding = _; code_is = c.from.ensures; index_is = refl; detail_holds = refl; is_text = e.1 }, e.2)
