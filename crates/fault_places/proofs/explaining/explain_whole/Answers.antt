use Rattle.std.proofs.Common.{◌∙◌, ◌++◌, ap}
use Rattle.type_checker.specs.schema.Views.{schema_view}
use Rattle.fault_places.specs.ReportWording.{cause_of, detail_of}
use Rattle.fault_places.proofs.explaining.explain_whole.Goals as goal

pub returns-in-Ok : goal.returns-in-Ok
returns-in-Ok c =
    let b = c.in-Ok-Some.blame in
    let words = rw c.in-Ok.is at c.push_words-worded.ensures in (
      b,
      rw c.in-Ok-Some.field-0-is at c.in-Ok-Some.ensures,
      record {
        fault = c.fault_and_path-fault.ensures.fault;
        path = c.fault_and_path-fault.ensures.path;
        cause = words.0 ∙ ap (λ l. l ++ cause_of b) c.new-cause.ensures.bytes;
        detail = words.1 ∙ ap (λ l. l ++ detail_of (schema_view c.args.schema.now) b) c.new-detail.ensures.bytes;
      },
    )

pub returns-in-Ok-None : goal.returns-in-Ok-None
returns-in-Ok-None c = rw c.in-Ok-None.field-0-is at c.in-Ok-None.ensures
