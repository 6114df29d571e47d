-- Entities and requests that are read have the types that a schema declares.
use Rattle.std.proofs.Common.{◌≡◌, ℕ, List, [], ◌∷◌, Bool, true, false, not, cond, Option, Some, Ok, refl}
use Rattle.std.proofs.Common.{sym, ap, subst}
use Rattle.std.specs.Prelude.{Contains, ◌&&◌, codes, ⊤}
use Rattle.std.specs.Str.{bytes_eq}
use Rattle.site_meaning.specs.ancestor_search.Decided.{is_same}
use Rattle.site_meaning.specs.ancestor_search.Deciding.{Contains-here, Contains-there, same_uid}
use Rattle.serde_json.specs.Find.{get, as_object}
use Rattle.values.specs.declared.entity_uid.EntityUid.{EntityUid}
use Rattle.site_store.specs.schema.declared.parts.EnvironmentKey.{EnvironmentKey}
use Rattle.site_store.specs.schema.Schemas.{EnvironmentOf, StatedSchema}
use Rattle.entities.specs.declared.fault.EntityFault.TheVariants.{UnknownType, ActionEntity, TagsLeftOut}
use Rattle.entities.specs.declared.fault.EntityFault.TheVariants.{NotApplicable}
use Rattle.site_store.specs.entity_data.declared.entity.Entity.{Entity}
use Rattle.entities.specs.declared.stated.StatedEntity.{StatedEntity}
use Rattle.entities.specs.EntityForms.{stated_in, is_absent_or_empty, or_empty}
use Rattle.entities.specs.Entities.{is_action_type, shape_of, attributes_in, parents_in, entity_stated_in}
use Rattle.entities.specs.Contexts.{context_where, is_place}
use Rattle.entities.specs.Requests.{context_asked}
use Rattle.sync_messages.specs.type_checker.FromSchemas.{shape_fields, attributes_of, static_fields, field_types_in}
use Rattle.site.proofs.Values.{same_bytes, both_true}
use Rattle.serde_json.specs.Data.{Data}
use Rattle.serde_json.specs.Data as json
use Rattle.json_words.specs.ReadsAs.{◌>>=◌, or_fault, demand}
use Rattle.values.specs.Values.{record_of, fields_of}
use Rattle.values.specs.Fields.{Field}
use Rattle.values.specs.Laws.{SetsHoldTheirMembers}
use Rattle.site_meaning.specs.schema_types.Cedar as cedar
use Rattle.site_meaning.specs.schema_types.Cedar.{Cedar, CedarFields}
use Rattle.entities.specs.declared.fault.EntityFault.TheVariants.{WrongType, Missing}
use Rattle.entities.specs.Parts as parts
use Rattle.entities.specs.Typing.{all_there, typed_members, record_in}
use Rattle.sync_messages.specs.typing.Types.{FieldTypes, no_field_types, record_type}
use Rattle.sync_messages.specs.typing.Membership.{Of}
use Rattle.site.specs.SoundReadings.{RecordsAreOfTheirTypes, EntitiesAreOfTheirTypes, RequestsAreOfAnEnvironment}
use Rattle.site.proofs.Values.{bound, is_it, some_of, demanded, record_is_of, members_of}

fields_static : (t : Cedar) (fs : CedarFields) → parts.fields_in t ≡ Some fs → field_types_in t ≡ static_fields fs
fields_static cedar.boolean fs e = absurd cc
fields_static cedar.long fs e = absurd cc
fields_static cedar.text fs e = absurd cc
fields_static (cedar.entity name) fs e = absurd cc
fields_static (cedar.set u) fs e = absurd cc
fields_static (cedar.record_of gs) fs e = let same : gs ≡ fs = cc in ap (λ (s : CedarFields). static_fields s) same
fields_static cedar.decimal fs e = absurd cc
fields_static cedar.ipaddr fs e = absurd cc

object_is : (d : Data) (ms : json.Members) → as_object d ≡ Some ms → d ≡ json.object ms
object_is json.null ms e = absurd cc
object_is (json.boolean b) ms e = absurd cc
object_is (json.number n) ms e = absurd cc
object_is (json.string x) ms e = absurd cc
object_is (json.array ds) ms e = absurd cc
object_is (json.object ns) ms e = let same : ns ≡ ms = cc in ap (λ (l : json.Members). json.object l) same

pub records_are_of : SetsHoldTheirMembers → RecordsAreOfTheirTypes
unfolding record_in
records_are_of made t d vs e =
    let a = bound (or_fault WrongType (parts.fields_in t)) (λ (fs : CedarFields). or_fault WrongType (as_object d) >>= λ (ms : json.Members). typed_members fs ms >>= λ (ws : List Field). demand Missing (all_there fs d) >>= λ u. Ok ws) vs e in
    let b = bound (or_fault WrongType (as_object d)) (λ (ms : json.Members). typed_members a.0 ms >>= λ (ws : List Field). demand Missing (all_there a.0 d) >>= λ u. Ok ws) vs a.2 in
    let c = bound (typed_members a.0 b.0) (λ (ws : List Field). demand Missing (all_there a.0 d) >>= λ u. Ok ws) vs b.2 in
    let g = bound (demand Missing (all_there a.0 d)) (λ u. Ok c.0) vs c.2 in
    let object : d ≡ json.object b.0 = object_is d b.0 (some_of WrongType (as_object d) b.0 b.1) in
    let all : all_there a.0 (json.object b.0) ≡ true = subst (λ (x : Data). all_there a.0 x ≡ true) object (demanded Missing (all_there a.0 d) g.0 g.1) in
    let read = members_of made a.0 b.0 c.0 c.1 in
    let is : Of (record_of (fields_of c.0)) (record_type (static_fields a.0)) = record_is_of a.0 b.0 c.0 all read.there read.each in
    subst (λ (ws : List Field). Of (record_of (fields_of ws)) (record_type (field_types_in t))) (is_it c.0 vs g.2)
    (subst (λ (ts : FieldTypes). Of (record_of (fields_of c.0)) (record_type ts)) (sym (fields_static t a.0 (some_of WrongType (parts.fields_in t) a.0 a.1))) is)

-- ---- entities

not_action : (b : Bool) (s : StatedSchema) (name : List ℕ) → not b ≡ true → cond b no_field_types (shape_fields (s.shape name)) ≡ shape_fields (s.shape name)
not_action true s name h = absurd cc
not_action false s name h = refl

-- the fields of an entity's type are those of its shape
shape_is : (s : StatedSchema) (name : List ℕ) (t : Cedar) → shape_of s name ≡ Ok t → attributes_of s name ≡ field_types_in t
unfolding shape_of
shape_is s name t e =
    let a = bound (demand ActionEntity (not (is_action_type name))) (λ (x : ⊤). or_fault UnknownType (s.shape name)) t e in
    let plain : not (is_action_type name) ≡ true = demanded ActionEntity (not (is_action_type name)) a.0 a.1 in
    let shape : s.shape name ≡ Some t = some_of UnknownType (s.shape name) t a.2 in
    subst (λ (o : Option Cedar). attributes_of s name ≡ shape_fields o) shape (not_action (is_action_type name) s name plain)

attributes_are_of : SetsHoldTheirMembers → (s : StatedSchema) (name : List ℕ) (d : Data) (fs : List Field) → attributes_in s name d ≡ Ok fs
    → Of (record_of (fields_of fs)) (record_type (attributes_of s name))
unfolding attributes_in
attributes_are_of made s name d fs e =
    let a = bound (shape_of s name) (λ (t : Cedar). demand TagsLeftOut (is_absent_or_empty (get (codes "tags") d)) >>= λ (x : ⊤). record_in t (or_empty (get (codes "attrs") d))) fs e in
    let b = bound (demand TagsLeftOut (is_absent_or_empty (get (codes "tags") d))) (λ (x : ⊤). record_in a.0 (or_empty (get (codes "attrs") d))) fs a.2 in
    let read : record_in a.0 (or_empty (get (codes "attrs") d)) ≡ Ok fs = b.2 in
    subst (λ (ts : FieldTypes). Of (record_of (fields_of fs)) (record_type ts)) (sym (shape_is s name a.0 a.1)) (records_are_of made a.0 (or_empty (get (codes "attrs") d)) fs read)

pub entities_are_of : SetsHoldTheirMembers → EntitiesAreOfTheirTypes
unfolding entity_stated_in
entities_are_of made s d e h =
    let one = bound (stated_in d) (λ (stated : StatedEntity). attributes_in s stated.uid.type_name d >>= λ (attrs : List Field). parents_in s stated.uid stated.parents >>= λ (parents : List EntityUid). Ok (record { uid = stated.uid; attrs = attrs; parents = parents })) e h in
    let two = bound (attributes_in s one.0.uid.type_name d) (λ (attrs : List Field). parents_in s one.0.uid one.0.parents >>= λ (parents : List EntityUid). Ok (record { uid = one.0.uid; attrs = attrs; parents = parents })) e one.2 in
    let three = bound (parents_in s one.0.uid one.0.parents) (λ (parents : List EntityUid). Ok (record { uid = one.0.uid; attrs = two.0; parents = parents })) e two.2 in
    let built : Entity = record { uid = one.0.uid; attrs = two.0; parents = three.0 } in
    subst (λ (x : Entity). Of (record_of (fields_of x.attrs)) (record_type (attributes_of s x.uid.type_name))) (is_it built e three.2)
    (attributes_are_of made s one.0.uid.type_name d two.0 two.1)

-- ---- requests

abbrev IsWhere : (EnvironmentKey → Bool) → List EnvironmentOf → Cedar → Type 0
IsWhere passes es t = (e : EnvironmentOf) × Contains es e × (passes e.place ≡ true) × (e.context ≡ t)

where_here : (passes : EnvironmentKey → Bool) (e : EnvironmentOf) (es : List EnvironmentOf) (t : Cedar) → (context_where passes es ≡ Some t → IsWhere passes es t)
    → (b : Bool) → b ≡ passes e.place → cond b (Some e.context) (context_where passes es) ≡ Some t → IsWhere passes (e ∷ es) t
where_here passes e es t more true at h = (e, Contains-here e es, sym at, cc)
where_here passes e es t more false at h = let m = more h in (m.0, Contains-there e es m.0 m.1, m.2, m.3)

is_where : (passes : EnvironmentKey → Bool) (es : List EnvironmentOf) (t : Cedar) → context_where passes es ≡ Some t → IsWhere passes es t
is_where passes [] t h = absurd cc
is_where passes (e ∷ es) t h = where_here passes e es t (is_where passes es t) (passes e.place) refl h

context_static : SetsHoldTheirMembers → (t u : Cedar) (d : Data) (fs : List Field) → u ≡ t → record_in t d ≡ Ok fs → Of (record_of (fields_of fs)) (record_type (field_types_in u))
context_static made t u d fs same read = subst (λ (w : Cedar). Of (record_of (fields_of fs)) (record_type (field_types_in w))) (sym same) (records_are_of made t d fs read)

pub requests_are_of : SetsHoldTheirMembers → RequestsAreOfAnEnvironment
unfolding context_asked
requests_are_of made s d q states =
    let passes : EnvironmentKey → Bool = is_place q.action q.principal.type_name q.resource.type_name in
    let asked : Data = or_empty (get (codes "context") d) in
    let a = bound (or_fault NotApplicable (context_where passes s.environments)) (λ (t : Cedar). record_in t asked) q.context states.context in
    let found = is_where passes s.environments a.0 (some_of NotApplicable (context_where passes s.environments) a.0 a.1) in
    let place : EnvironmentKey = found.0.place in
    let one = both_true (is_same place.action q.action) (bytes_eq place.principal q.principal.type_name && bytes_eq place.resource q.resource.type_name) found.2 in
    let two = both_true (bytes_eq place.principal q.principal.type_name) (bytes_eq place.resource q.resource.type_name) one.1 in (
      found.0,
      found.1,
      record {
        principal = sym (same_bytes place.principal q.principal.type_name two.0);
        action = sym (same_uid place.action q.action one.0);
        resource = sym (same_bytes place.resource q.resource.type_name two.1);
        context = context_static made a.0 found.0.context asked q.context found.3 a.2;
      },
    )
