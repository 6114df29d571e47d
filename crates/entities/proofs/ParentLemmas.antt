-- Parents, judged one after the other.
use Rattle.std.proofs.Common.{◌≡◌, ◌∙◌, ℕ, ◌+◌, ◌<◌, ◌≤◌, List, length, drop, get_or, Result, Ok, refl, ap}
use Rattle.std.specs.Prelude.{⊤}
use Rattle.std.proofs.lemmas.List.{drop_all}
use Rattle.json_words.specs.ReadsAs.{Fails}
use Rattle.json_words.proofs.EachSame.{cut}
use Rattle.values.specs.declared.entity_uid.EntityUid.{EntityUid}
use Rattle.schema.specs.Schemas.{StatedSchema}
use Rattle.entities.specs.declared.fault.EntityFault.{EntityFault}
use Rattle.entities.specs.declared.fault.EntityFault.TheVariants.{NoMemory}
use Rattle.serde_json.specs.Data.{Data}
use Rattle.values.specs.Fields.{Field}
use Rattle.entities.specs.declared.stated.StatedEntity.{StatedEntity}
use Rattle.entities.specs.EntityForms.{stated_in}
use Rattle.entities.specs.Entities.{parent_fits, parents_fit, parents_in, attributes_in, entity_stated_in}

pub fit_goes : (s : StatedSchema) (uid : EntityUid) (vs : List EntityUid) (i : ℕ) (p : EntityUid) (total : Result ⊤ EntityFault) → i < length vs → p ≡ get_or vs i p
    → parent_fits s uid p ≡ Ok tt → total ≡ parents_fit s uid (drop i vs) → total ≡ parents_fit s uid (drop (i + 1) vs)
unfolding parents_fit
fit_goes s uid vs i p total lt at fits so_far = so_far ∙ ap (parents_fit s uid) (cut vs i p lt at) ∙ rw fits refl

pub fit_stops : (s : StatedSchema) (uid : EntityUid) (vs : List EntityUid) (i : ℕ) (p : EntityUid) (total : Result ⊤ EntityFault) (f : EntityFault) → i < length vs → p ≡ get_or vs i p
    → Fails NoMemory f (parent_fits s uid p) → total ≡ parents_fit s uid (drop i vs) → Fails NoMemory f total
unfolding parents_fit
fit_stops s uid vs i p total f lt at fails so_far = λ other. so_far ∙ ap (parents_fit s uid) (cut vs i p lt at) ∙ rw (fails other) refl

pub fit_ends : (s : StatedSchema) (uid : EntityUid) (vs : List EntityUid) (n : ℕ) (total : Result ⊤ EntityFault) → length vs ≤ n → total ≡ parents_fit s uid (drop n vs) → total ≡ Ok tt
unfolding parents_fit
fit_ends s uid vs n total le so_far = so_far ∙ ap (parents_fit s uid) (drop_all n vs le)

-- an entity whose parents are refused is refused as they are
pub parents_stop : (s : StatedSchema) (d : Data) (stated : StatedEntity) (attrs : List Field) (f : EntityFault)
    → stated_in d ≡ Ok stated → attributes_in s stated.uid.type_name d ≡ Ok attrs → Fails NoMemory f (parents_in s stated.uid stated.parents) → Fails NoMemory f (entity_stated_in s d)
unfolding entity_stated_in
parents_stop s d stated attrs f form attributed fails = λ other. rw (form, attributed, fails other) refl
