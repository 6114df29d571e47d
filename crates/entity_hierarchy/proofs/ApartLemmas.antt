-- No entity that is read under a schema is one of its actions.
use Rattle.std.proofs.Common.{◌≡◌, ◌∙◌, ℕ, List, Option, Some, None, Result, Ok, Err, Bool, true, false, not, refl, sym}
use Rattle.std.proofs.Common.{subst}
use Rattle.std.specs.Prelude.{codes, ⊤, IsSome}
use Rattle.serde_json.specs.Data.{Data}
use Rattle.serde_json.specs.Find.{get}
use Rattle.values.specs.declared.entity_uid.EntityUid.{EntityUid}
use Rattle.values.specs.Fields.{Field}
use Rattle.json_words.specs.ReadsAs.{◌>>=◌, or_fault, demand}
use Rattle.entities.specs.schema_types.Cedar.{Cedar}
use Rattle.entities.specs.schema.Schemas.{StatedSchema}
use Rattle.entities.specs.schema.WellFormed.{IsWellFormed, StatedSchemasAreWellFormed}
use Rattle.entities.specs.Typing.{record_in}
use Rattle.entities.specs.declared.fault.EntityFault.{EntityFault}
use Rattle.entities.specs.declared.fault.EntityFault.TheVariants.{UnknownType, ActionEntity, TagsLeftOut}
use Rattle.entities.specs.entity_data.declared.entity.Entity.{Entity}
use Rattle.entities.specs.declared.stated.StatedEntity.{StatedEntity}
use Rattle.entities.specs.EntityForms.{stated_in, is_absent_or_empty, or_empty}
use Rattle.entities.specs.Entities.{is_action_type, shape_of, attributes_in, parents_in, entity_stated_in}
use Rattle.entities.specs.Laws.{ActionTypeTestIsExact}
use Rattle.entity_hierarchy.specs.Laws.{NoEntityIsAnAction}

-- one step of reading, and the next
bound : {A B F : Type 0} (r : Result A F) (f : A → Result B F) (y : B) → (r >>= f) ≡ Ok y → (x : A) × (r ≡ Ok x) × (f x ≡ Ok y)
bound (Ok x) f y h = (x, refl, h)
bound (Err e) f y h = absurd cc

-- ---- an entity that is read has no action's type

demanded : (f : EntityFault) (b : Bool) (x : ⊤) → demand f (not b) ≡ Ok x → b ≡ false
demanded f true x h = absurd cc
demanded f false x h = refl

shape_typed : (s : StatedSchema) (name : List ℕ) (t : Cedar) → shape_of s name ≡ Ok t → is_action_type name ≡ false
unfolding shape_of
shape_typed s name t h =
    let a = bound (demand ActionEntity (not (is_action_type name))) (λ (x : ⊤). or_fault UnknownType (s.shape name)) t h in
    demanded ActionEntity (is_action_type name) a.0 a.1

attributes_typed : (s : StatedSchema) (name : List ℕ) (d : Data) (fs : List Field) → attributes_in s name d ≡ Ok fs → is_action_type name ≡ false
unfolding attributes_in
attributes_typed s name d fs h =
    let a = bound (shape_of s name) (λ (t : Cedar). demand TagsLeftOut (is_absent_or_empty (get (codes "tags") d)) >>= λ (x : ⊤). record_in t (or_empty (get (codes "attrs") d))) fs h in
    shape_typed s name a.0 a.1

entity_typed : (s : StatedSchema) (d : Data) (e : Entity) → entity_stated_in s d ≡ Ok e → is_action_type e.uid.type_name ≡ false
unfolding entity_stated_in
entity_typed s d e h =
    let one = bound (stated_in d) (λ (stated : StatedEntity). attributes_in s stated.uid.type_name d >>= λ (attrs : List Field). parents_in s stated.uid stated.parents >>= λ (parents : List EntityUid). Ok (record { uid = stated.uid; attrs = attrs; parents = parents })) e h in
    let two = bound (attributes_in s one.0.uid.type_name d) (λ (attrs : List Field). parents_in s one.0.uid one.0.parents >>= λ (parents : List EntityUid). Ok (record { uid = one.0.uid; attrs = attrs; parents = parents })) e one.2 in
    let three = bound (parents_in s one.0.uid one.0.parents) (λ (parents : List EntityUid). Ok (record { uid = one.0.uid; attrs = two.0; parents = parents })) e two.2 in
    let made : Entity = record { uid = one.0.uid; attrs = two.0; parents = three.0 } in
    let same : made ≡ e = cc (three.2) in
    subst (λ (x : Entity). is_action_type x.uid.type_name ≡ false) same (attributes_typed s one.0.uid.type_name d two.0 two.1)

-- ---- so it is no action

some_here : {A : Type 0} (o : Option A) (x : A) → o ≡ Some x → IsSome o
some_here (Some y) x e = refl
some_here None x e = absurd cc

none_at : (told_types : ActionTypeTestIsExact) (v : StatedSchema) (wf : IsWellFormed v) (u : EntityUid) → is_action_type u.type_name ≡ false
    → (o : Option (List EntityUid)) → v.ancestors u ≡ o → o ≡ None
none_at told_types v wf u plain None e = refl
none_at told_types v wf u plain (Some us) e =
    let action : is_action_type u.type_name ≡ true = (told_types u.type_name).1 (wf.actions_typed u ((wf.actions u).1 (some_here (v.ancestors u) us e))) in
    let both : true ≡ false = sym action ∙ plain in absurd cc

pub no_entity_is_an_action : StatedSchemasAreWellFormed → ActionTypeTestIsExact → NoEntityIsAnAction
no_entity_is_an_action well told_types bytes v stated d e read =
    none_at told_types v (well bytes v stated) e.uid (entity_typed v d e read) (v.ancestors e.uid) refl
