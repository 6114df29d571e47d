use Rattle.std.proofs.Common.{option_map, string_bytes}
use Rattle.schema_decisions.specs.schema.Views.{schema_view}
use Rattle.explanations.proofs.Appending.{on_ok}
use Rattle.explanations.proofs.Joining.{held_text, held_no_text}
use Rattle.explanations.proofs.explaining.explain_file.Goals as goal

pub returns-in-Ok : goal.returns-in-Ok
returns-in-Ok c =
    on_ok c.explain_text.result c.explain_text.ensures (held_text (option_map (λ s. schema_view s.now) c.args.schema) c.args.source.name.now c.args.source.text.now
    (string_bytes c.args.out.now) (string_bytes c.explain_text.new.out) c.in-Ok.text.now c.in-Ok.ensures.cases.0 c.in-Ok.ensures.cases.1)

pub returns-in-Err : goal.returns-in-Err
returns-in-Err c =
    on_ok c.explain_no_text.result (c.explain_no_text.ensures (rw (← c.valid_up_to.ensures) at c.in-Err.ensures.cases.1))
    (held_no_text (option_map (λ s. schema_view s.now) c.args.schema) c.args.source.name.now c.args.source.text.now
    (string_bytes c.args.out.now) (string_bytes c.explain_no_text.new.out))
