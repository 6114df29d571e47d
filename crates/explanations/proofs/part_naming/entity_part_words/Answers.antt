use Rattle.std.proofs.Common.{◌≡◌, ◌∙◌, ℕ, List, Option, Some, option_map, ap}
use Rattle.serde_json.specs.View.{view}
use Rattle.schema_types.specs.Cedar.{Cedar}
use Rattle.schema_types.specs.CedarViews.{cedar_view}
use Rattle.schema_decisions.specs.schema.Views.{schema_view}
use Rattle.explanations.specs.declared.part_faults.PartFault.{PartFault}
use Rattle.explanations.specs.EntityPaths.{shape_at}
use Rattle.explanations.specs.Outcomes.{IsEntityFault}
use Rattle.explanations.specs.PartWords.{part_words, NamesPartOfEntity}
use Rattle.explanations.proofs.Going.{if_ok}
use Rattle.explanations.proofs.Telling.{words_told}
use Rattle.explanations.proofs.part_naming.entity_part_words.Goals as goal

pub returns-in-Ok : goal.returns-in-Ok
returns-in-Ok c =
    let s = schema_view c.args.schema.now in
    let d = view c.in-Some.value.now in
    let whole : Option Cedar = option_map (λ t. cedar_view t.now) c.in-Ok.shape in
    rw c.in-Some.is (
    if_ok c.part_words.result (λ (words : List ℕ). (o : Option PartFault) × IsEntityFault s d o × (words ≡ part_words o whole)) (NamesPartOfEntity s (Some d))
    (λ words h. (h.0, h.1, h.2 ∙ ap (part_words h.0) (c.in-Ok.ensures ∙ ap (shape_at s) c.get.ensures)))
    (words_told (IsEntityFault s d) c.entity_fault.result c.part_words.result whole c.entity_fault.ensures c.part_words.ensures))

pub returns-in-None : goal.returns-in-None
returns-in-None c = rw c.in-None.is (c.from_string.ensures ∙ c.new.ensures.bytes)

pub returns-in-Err : goal.returns-in-Err
returns-in-Err c = tt
