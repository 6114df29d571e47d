use Rattle.std.proofs.Common.{string_bytes, ◌∙◌, ◌++◌, ap, sym}
use Rattle.std.proofs.lemmas.Result.{IfOk-weaker}
use Rattle.type_checker.specs.schema.Views.{schema_view, environment_view}
use Rattle.type_checker.specs.FromSchemas.{typing_environment_of}
use Rattle.fault_places.proofs.Appending.{nothing_more}
use Rattle.fault_places.proofs.Reading.{none_declared, optional_in, not_declared_in}
use Rattle.fault_places.proofs.details.push_declared.Goals as goal

pub returns-then-declared : goal.returns-then-declared
returns-then-declared c =
    let E = typing_environment_of (schema_view c.args.schema.now) (environment_view c.args.environment.now) in
    IfOk-weaker c.push_two.result _ _
    (λ _ h. optional_in E c.args.name.now c.args.types.now c.in-Some.owner.now c.in_ok-declared-in-Some.declared c.in-Some.ensures.value
    c.in_ok-declared-in-Some.ensures c.type_word.result.now c.type_word.ensures (string_bytes c.args.out.now) (string_bytes c.push_two.new.out)
    c.if-declared.true h)
    c.push_two.ensures

pub returns-in_ok-push_two-in-Some : goal.returns-in_ok-push_two-in-Some
returns-in_ok-push_two-in-Some c =
    let E = typing_environment_of (schema_view c.args.schema.now) (environment_view c.args.environment.now) in
    IfOk-weaker c.push_attributes.result _ _
    (λ _ h. not_declared_in E c.args.name.now c.args.types.now c.in-Some.owner.now c.in_ok-declared-in-Some.declared c.in-Some.ensures.value
    c.in_ok-declared-in-Some.ensures c.type_word-else-declared.result.now c.type_word-else-declared.ensures (string_bytes c.args.out.now)
    (string_bytes c.push_two-else-declared.new.out) (string_bytes c.push_attributes.new.out) c.if-declared.false
    c.in_ok-push_two-in-Some.ensures h)
    c.push_attributes.ensures

pub returns-in-None : goal.returns-in-None
returns-in-None c =
    let old = string_bytes c.args.out.now in
    let E = typing_environment_of (schema_view c.args.schema.now) (environment_view c.args.environment.now) in
    nothing_more old ∙ ap (λ l. old ++ l) (sym (none_declared E c.args.name.now c.args.types.now c.in-None.ensures.value))
