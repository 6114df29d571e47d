use Rattle.std.proofs.Common.{ℕ, List, [], Option, None, Some, refl, string_bytes, subst, sym}
use Rattle.schema_decisions.specs.schema.Views.{schema_view}
use Rattle.explanations.specs.EntitiesAndRequests.{AreEntitiesRead, AreEntitiesRefused, IsEntityPartNamed}
use Rattle.explanations.proofs.Appending.{on_ok}
use Rattle.explanations.proofs.Joining.{nothing_given, accepted, rejected}
use Rattle.explanations.proofs.others.explain_entities.Goals as goal
use Rattle.schema_decisions.specs.answer_lines.Refusals.{number_in}

pub returns-in_default : goal.returns-in_default
returns-in_default c = rw c.in_default.is (nothing_given (string_bytes c.args.out.now))

pub returns-in-Ok : goal.returns-in-Ok
returns-in-Ok c =
    let text = c.in-Some.source.text.now in
    rw (c.in-Some.is, c.in_default-schema.is) (
    accepted c.in-Some.source.name.now (string_bytes c.args.out.now) (AreEntitiesRead None text) (AreEntitiesRefused None text) (IsEntityPartNamed None text)
    (c.in-Ok._line.items, c.in-Ok.ensures.decided))

pub returns-in-Err : goal.returns-in-Err
returns-in-Err c =
    let text = c.in-Some.source.text.now in
    rw (c.in-Some.is, c.in_default-schema.is) (
    on_ok c.push_refusal.result c.push_refusal.ensures (rejected c.in-Some.source.name.now (string_bytes c.args.out.now) (string_bytes c.push_refusal.new.out)
    (AreEntitiesRead None text) (AreEntitiesRefused None text) (IsEntityPartNamed None text) c.in-Err.refusal [] refl c.in-Err.ensures.refused))

pub returns-in-Ok-check_entities : goal.returns-in-Ok-check_entities
returns-in-Ok-check_entities c =
    let text = c.in-Some.source.text.now in
    let s = Some (schema_view c.in-Some-schema.schema.now) in
    rw (c.in-Some.is, c.in-Some-schema.is) (
    accepted c.in-Some.source.name.now (string_bytes c.args.out.now) (AreEntitiesRead s text) (AreEntitiesRefused s text) (IsEntityPartNamed s text)
    c.in-Ok-check_entities.ensures.read)

pub returns-in_ok-words-in-Err-check_entities : goal.returns-in_ok-words-in-Err-check_entities
returns-in_ok-words-in-Err-check_entities c =
    let text = c.in-Some.source.text.now in
    let s = Some (schema_view c.in-Some-schema.schema.now) in
    let refusal = c.in-Err-check_entities.refusal in
    rw (c.in-Some.is, c.in-Some-schema.is) (
    on_ok c.push_refusal-in-Err-check_entities.result c.push_refusal-in-Err-check_entities.ensures (rejected c.in-Some.source.name.now (string_bytes c.args.out.now)
    (string_bytes c.push_refusal-in-Err-check_entities.new.out) (AreEntitiesRead s text) (AreEntitiesRefused s text) (IsEntityPartNamed s text) refusal c.as_str.result.now
    (subst (λ (words : List ℕ). IsEntityPartNamed s text (number_in refusal.place) words) (sym c.as_str.ensures)
    (subst (λ (number : Option ℕ). IsEntityPartNamed s text number c.in_ok-words-in-Err-check_entities.words) c.place_number.ensures
    c.in_ok-words-in-Err-check_entities.ensures))
    c.in-Err-check_entities.ensures.refused))
