use Rattle.std.proofs.Common.{string_bytes, sym, ap, ◌∙◌, ◌++◌}
use Rattle.std.proofs.lemmas.Result.{IfOk-weaker}
use Rattle.type_checker.specs.schema.Views.{schema_view}
use Rattle.fault_places.specs.ReportWording.{cause_of, detail_of}
use Rattle.fault_places.proofs.explaining.push_words.Goals as goal

pub returns-in_ok-push_name-in-Name : goal.returns-in_ok-push_name-in-Name
returns-in_ok-push_name-in-Name c =
    let s = schema_view c.args.schema.now in
    IfOk-weaker c.push_name_detail.result _ _
    (λ _ h. (
      c.in_ok-push_name-in-Name.ensures ∙ ap (λ b. string_bytes c.args.cause.now ++ cause_of b) (sym c.in-Name.is),
      h ∙ ap (λ b. string_bytes c.args.detail.now ++ detail_of s b) (sym c.in-Name.is),
    ))
    c.push_name_detail.ensures

pub returns-in_ok-push_str-in-Typing : goal.returns-in_ok-push_str-in-Typing
returns-in_ok-push_str-in-Typing c =
    let s = schema_view c.args.schema.now in
    IfOk-weaker c.push_detail.result _ _
    (λ _ h. (
      c.in_ok-push_str-in-Typing.ensures.bytes ∙ ap (λ l. string_bytes c.args.cause.now ++ l) c.typing_cause.ensures
          ∙ ap (λ b. string_bytes c.args.cause.now ++ cause_of b) (sym c.in-Typing.is),
      h ∙ ap (λ b. string_bytes c.args.detail.now ++ detail_of s b) (sym c.in-Typing.is),
    ))
    c.push_detail.ensures
