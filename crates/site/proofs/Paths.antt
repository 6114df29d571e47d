-- The type of an entity that JSON states is a Path.
use Rattle.std.specs.Prelude.{◌≡◌, Option, Some, None, Result, Ok, Err, MatchOption, codes}
use Rattle.std.proofs.Common.{subst, refl}
use Rattle.serde_json.specs.Data.{Data}
use Rattle.serde_json.specs.Find.{get}
use Rattle.json_words.specs.ReadsAs.{◌>>=◌, or_fault, demand}
use Rattle.plain.specs.Words.{IsPath}
use Rattle.values.specs.declared.entity_uid.EntityUid.{EntityUid}
use Rattle.entity_uids.specs.Laws.{UidsAreFound}
use Rattle.entity_uids.specs.Uids.{IsPlainUid, IsUnderEntity, IsRead, IsUid, uid_in}
use Rattle.site_store.specs.schema.Schemas.{StatedSchema}
use Rattle.site_store.specs.entity_data.declared.entity.Entity.{Entity}
use Rattle.entities.specs.declared.fault.EntityFault.{EntityFault}
use Rattle.entities.specs.declared.fault.EntityFault.TheVariants.{BadShape}
use Rattle.entities.specs.declared.stated.StatedEntity.{StatedEntity}
use Rattle.entities.specs.Entities.{attributes_in, entity_stated_in, parents_in}
use Rattle.entities.specs.EntityForms.{has_objects, stated_parents, stated_in, stated_uid}

-- the value of a step that did not fail
value_of : {A B F : Type 0} (r : Result A F) (f : A → Result B F) (y : B) → (r >>= f) ≡ Ok y
    → (x : A) × (r ≡ Ok x) × (f x ≡ Ok y)
value_of (Ok x) f y e = (x, refl, e)
value_of (Err d) f y e = absurd cc

abbrev given : {A : Type 0} → A → Result A EntityFault
given x = Ok x

path_named : (d : Data) (uid : EntityUid) (inner : Option Data)
    → MatchOption inner (IsPlainUid d uid) (λ x. IsUnderEntity d x uid) → IsPath uid.type_name
path_named d uid None is = is.path
path_named d uid (Some x) is = is.is.path

path_found : UidsAreFound → (d : Data) (uid : EntityUid) (o : Option EntityUid) → IsRead (IsUid d) o
    → or_fault BadShape o ≡ given uid → IsPath uid.type_name
path_found all d uid None read is = absurd cc
path_found all d uid (Some x) read is =
    let same : x ≡ uid = cc in
    subst (λ (u : EntityUid). IsPath u.type_name) same (path_named d x (get (codes "__entity") d) read)

path_stated : UidsAreFound → (d : Data) (e : StatedEntity) → stated_in d ≡ given e → IsPath e.uid.type_name
unfolding stated_in
path_stated all d e h =
    let name = value_of (or_fault BadShape (get (codes "uid") d)) (λ name. stated_uid name >>= λ uid.
    demand BadShape (has_objects d) >>= λ objects. stated_parents (get (codes "parents") d) >>= λ parents.
    given (record { uid = uid; parents = parents })) e h in
    let uid = value_of (stated_uid name.0) (λ uid. demand BadShape (has_objects d) >>= λ objects.
    stated_parents (get (codes "parents") d) >>= λ parents. given (record { uid = uid; parents = parents })) e name.2 in
    let objects = value_of (demand BadShape (has_objects d)) (λ objects. stated_parents (get (codes "parents") d) >>= λ parents.
    given (record { uid = uid.0; parents = parents })) e uid.2 in
    let parents = value_of (stated_parents (get (codes "parents") d))
    (λ parents. given (record { uid = uid.0; parents = parents })) e objects.2 in
    let same : uid.0 ≡ e.uid = cc in
    subst (λ (u : EntityUid). IsPath u.type_name) same (path_found all name.0 uid.0 (uid_in name.0) (all name.0) uid.1)

pub entity_path : UidsAreFound → (s : StatedSchema) (d : Data) (e : Entity) → entity_stated_in s d ≡ Ok e
    → IsPath e.uid.type_name
unfolding entity_stated_in
entity_path all s d e h =
    let stated = value_of (stated_in d) (λ t. attributes_in s t.uid.type_name d >>= λ attrs.
    parents_in s t.uid t.parents >>= λ parents.
    given (record { uid = t.uid; attrs = attrs; parents = parents })) e h in
    let attrs = value_of (attributes_in s stated.0.uid.type_name d) (λ attrs.
    parents_in s stated.0.uid stated.0.parents >>= λ parents.
    given (record { uid = stated.0.uid; attrs = attrs; parents = parents })) e stated.2 in
    let parents = value_of (parents_in s stated.0.uid stated.0.parents) (λ parents.
    given (record { uid = stated.0.uid; attrs = attrs.0; parents = parents })) e attrs.2 in
    let same : stated.0.uid ≡ e.uid = cc in
    subst (λ (u : EntityUid). IsPath u.type_name) same (path_stated all d stated.0 stated.1)
