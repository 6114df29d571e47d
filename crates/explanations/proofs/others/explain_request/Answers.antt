use Rattle.std.proofs.Common.{ℕ, List, [], None, Some, refl, option_map, string_bytes, subst, sym}
use Rattle.schema_decisions.specs.schema.Views.{schema_view}
use Rattle.explanations.specs.Files.{file_of}
use Rattle.explanations.specs.EntitiesAndRequests.{IsRequestRead, IsRequestRefused, IsRequestPartNamed}
use Rattle.explanations.proofs.Appending.{on_ok}
use Rattle.explanations.proofs.Joining.{nothing_given, accepted, rejected}
use Rattle.explanations.proofs.others.explain_request.Goals as goal

pub returns-in_default : goal.returns-in_default
returns-in_default c = rw c.in_default.is (nothing_given (string_bytes c.args.out.now))

pub returns-in-Ok : goal.returns-in-Ok
returns-in-Ok c =
    let text = c.in-Some.source.text.now in
    let schema = option_map (λ f. f.text) (option_map file_of c.args.stated) in
    rw c.in-Some.is (
    accepted c.in-Some.source.name.now (string_bytes c.args.out.now) (IsRequestRead schema text) (IsRequestRefused schema text)
    (λ place. IsRequestPartNamed (option_map (λ s. schema_view s.now) c.args.schema) text) c.in-Ok.ensures.read)

pub returns-in-None : goal.returns-in-None
returns-in-None c =
    let text = c.in-Some.source.text.now in
    let schema = option_map (λ f. f.text) (option_map file_of c.args.stated) in
    rw (c.in-Some.is, c.in-None.is) (
    on_ok c.push_refusal-in-None.result c.push_refusal-in-None.ensures (rejected c.in-Some.source.name.now (string_bytes c.args.out.now) (string_bytes c.push_refusal-in-None.new.out)
    (IsRequestRead schema text) (IsRequestRefused schema text) (λ place. IsRequestPartNamed None text) c.in-Err.refusal [] refl c.in-Err.ensures.refused))

pub returns-in_ok-words-in-Some-schema : goal.returns-in_ok-words-in-Some-schema
returns-in_ok-words-in-Some-schema c =
    let text = c.in-Some.source.text.now in
    let schema = option_map (λ f. f.text) (option_map file_of c.args.stated) in
    let s = Some (schema_view c.in-Some-schema.schema.now) in
    rw (c.in-Some.is, c.in-Some-schema.is) (
    on_ok c.push_refusal.result c.push_refusal.ensures (rejected c.in-Some.source.name.now (string_bytes c.args.out.now) (string_bytes c.push_refusal.new.out)
    (IsRequestRead schema text) (IsRequestRefused schema text) (λ place. IsRequestPartNamed s text) c.in-Err.refusal c.as_str.result.now
    (subst (λ (words : List ℕ). IsRequestPartNamed s text words) (sym c.as_str.ensures) c.in_ok-words-in-Some-schema.ensures) c.in-Err.ensures.refused))
