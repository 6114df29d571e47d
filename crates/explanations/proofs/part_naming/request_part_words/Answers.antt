use Rattle.std.proofs.Common.{◌≡◌, ◌∙◌, ℕ, List, Option, Some, option_map}
use Rattle.serde_json.specs.View.{view}
use Rattle.schema_types.specs.Cedar.{Cedar}
use Rattle.schema_types.specs.CedarViews.{cedar_view}
use Rattle.schema_decisions.specs.schema.Views.{schema_view}
use Rattle.explanations.specs.declared.part_faults.PartFault.{PartFault}
use Rattle.explanations.specs.Outcomes.{IsRequestFault}
use Rattle.explanations.specs.PartWords.{part_words, NamesPartOfRequest}
use Rattle.explanations.proofs.Going.{if_ok}
use Rattle.explanations.proofs.Telling.{words_told}
use Rattle.explanations.proofs.part_naming.request_part_words.Goals as goal

pub returns-in-Ok : goal.returns-in-Ok
returns-in-Ok c =
    let s = schema_view c.args.schema.now in
    let d = view c.in-Some.value.now in
    let whole : Option Cedar = option_map (λ t. cedar_view t.now) c.in-Ok.context in
    rw c.in-Some.is (
    if_ok c.part_words.result (λ (words : List ℕ). (o : Option PartFault) × IsRequestFault s d o × (words ≡ part_words o whole)) (NamesPartOfRequest s (Some d))
    (λ words h. (h.0, whole, h.1, c.in-Ok.ensures, h.2))
    (words_told (IsRequestFault s d) c.request_fault.result c.part_words.result whole c.request_fault.ensures c.part_words.ensures))

pub returns-in-None : goal.returns-in-None
returns-in-None c = rw c.in-None.is (c.from_string.ensures ∙ c.new.ensures.bytes)

pub returns-in-Err : goal.returns-in-Err
returns-in-Err c = tt
