-- The one JSON of an entity that was read from JSON that bytes are is plain.
use Rattle.std.proofs.Common.{◌≡◌, ℕ, suc, List, [], ◌∷◌, map, Option, Some, None, Ok, refl, subst}
use Rattle.std.proofs.Common.{Less, Equal, Greater}
use Rattle.std.specs.Prelude.{codes}
use Rattle.std.specs.List.Sorted.{IsStrictlySortedBy}
use Rattle.std.specs.Ordering.{match_ordering}
use Rattle.serde_json.specs.Data.{Data, Items, no_items, item, null, boolean, number, string, array, object}
use Rattle.serde_json.specs.Find.{get, as_array}
use Rattle.serde_json.specs.View.{items_of}
use Rattle.json_words.specs.Ascending.{ItemsAscend}
use Rattle.json_words.specs.Each.{each, list_of}
use Rattle.json_words.specs.ReadsAs.{◌>>=◌, or_fault, demand}
use Rattle.json_words.specs.Plain.{IsPlain, ArePlain}
use Rattle.json_words.proofs.AsciiLemmas.{ascii_is_utf8}
use Rattle.json_words.proofs.EachLemmas.{bind_ok}
use Rattle.values.specs.declared.entity_uid.EntityUid.{EntityUid}
use Rattle.values.specs.Fields.{Field}
use Rattle.values.specs.Names.{uid_cmp}
use Rattle.values.specs.Values.{fields_of}
use Rattle.entity_uids.specs.Uids.{uid_in, uid_json}
use Rattle.schema.specs.Schemas.{StatedSchema}
use Rattle.entities.specs.Typing.{record_in}
use Rattle.entities.specs.CanonicalValues.{fields_json}
use Rattle.entity_data.specs.declared.entity.Entity.{Entity}
use Rattle.entity_data.specs.UidSets.{put_uid, uid_set}
use Rattle.entities.specs.declared.fault.EntityFault.TheVariants.{BadShape, TagsLeftOut}
use Rattle.entities.specs.declared.stated.StatedEntity.{StatedEntity}
use Rattle.entities.specs.EntityForms.{stated_uid, uids_of, stated_parents, has_objects, is_absent_or_empty, or_empty}
use Rattle.entities.specs.EntityForms.{stated_in}
use Rattle.entities.specs.Entities.{shape_of, attributes_in, parents_fit, parents_in, entity_stated_in}
use Rattle.entities.specs.Canonical.{canonical_json}
use Rattle.entities.specs.Texts.{HaveUtf8}
use Rattle.entities.proofs.Steps.{carried, some_of}
use Rattle.entities.proofs.PlainParts.{IsClean, get_is_clean, uid_is_utf8, uid_is_plain}
use Rattle.entities.proofs.PlainValues.{record_plain}

-- ---- names

abbrev HasPlainName : EntityUid → Type 0
HasPlainName u = IsPlain (uid_json u)

abbrev HavePlainNames : List EntityUid → Type 0
HavePlainNames us = ArePlain (items_of (map uid_json us))

name_plain : (d : Data) (u : EntityUid) → IsClean d → stated_uid d ≡ Ok u → HasPlainName u
name_plain d u h e = uid_is_plain u (uid_is_utf8 d u h (some_of BadShape (uid_in d) u e))

names_plain : (ds : Items) (k : ℕ) (us : List EntityUid) → HaveUtf8 ds → ItemsAscend ds
    → each (λ i d. stated_uid d) k (list_of ds) ≡ Ok us → HavePlainNames us
unfolding each
names_plain no_items k us u a e = carried HavePlainNames [] us e tt
names_plain (item d ds) k us u a e =
    let x = bind_ok (stated_uid d) (λ v. each (λ i x. stated_uid x) (suc k) (list_of ds) >>= λ vs. Ok (v ∷ vs)) us e in
    let y = bind_ok (each (λ i x. stated_uid x) (suc k) (list_of ds)) (λ vs. Ok (x.0 ∷ vs)) us x.2 in
    carried HavePlainNames (x.0 ∷ y.0) us y.2
    (name_plain d x.0 (record { utf8 = u.0; ascend = a.0 }) x.1, names_plain ds (suc k) y.0 u.1 a.1 y.1)

array_is : (d : Data) (ds : Items) → as_array d ≡ Some ds → d ≡ array ds
array_is null ds e = absurd cc
array_is (boolean b) ds e = absurd cc
array_is (number n) ds e = absurd cc
array_is (string s) ds e = absurd cc
array_is (array es) ds e = cc
array_is (object ms) ds e = absurd cc

parents_plain : (found : Option Data) (us : List EntityUid) → ((d : Data) → found ≡ Some d → IsClean d)
    → stated_parents found ≡ Ok us → HavePlainNames us
unfolding uids_of
parents_plain None us h e = carried HavePlainNames [] us e tt
parents_plain (Some d) us h e =
    let a = bind_ok (or_fault BadShape (as_array d)) (λ ds. uids_of ds) us e in
    let is : d ≡ array a.0 = array_is d a.0 (some_of BadShape (as_array d) a.0 a.1) in
    let clean : IsClean (array a.0) = subst IsClean is (h d refl) in
    names_plain a.0 0 us clean.utf8 clean.ascend a.2

put_plain : (u : EntityUid) (vs : List EntityUid) → HasPlainName u → HavePlainNames vs → HavePlainNames (put_uid u vs)
put_plain u [] p a = (p, a)
put_plain u (v ∷ vs) p a =
    elim (uid_cmp u v) as (λ o. HavePlainNames (match_ordering o (u ∷ v ∷ vs) (v ∷ vs) (v ∷ put_uid u vs))) [
      | Less ↦ (p, a)
      | Equal ↦ a
      | Greater ↦ (a.0, put_plain u vs p a.1)
    ]

set_plain : (us : List EntityUid) → HavePlainNames us → HavePlainNames (uid_set us)
set_plain [] a = a
set_plain (u ∷ us) a = put_plain u (uid_set us) a.0 (set_plain us a.1)

-- ---- entities

record IsStatedPlainly (stated : StatedEntity) : Type 0 where
  uid : HasPlainName stated.uid
  parents : HavePlainNames stated.parents

stated_plain : (d : Data) (stated : StatedEntity) → IsClean d → stated_in d ≡ Ok stated → IsStatedPlainly stated
unfolding stated_in
stated_plain d stated h e =
    let parents = stated_parents (get (codes "parents") d) in
    let a = bind_ok (or_fault BadShape (get (codes "uid") d))
    (λ name. stated_uid name >>= λ uid. demand BadShape (has_objects d) >>= λ objects. parents >>= λ ps.
    Ok (record { uid = uid; parents = ps })) stated e in
    let b = bind_ok (stated_uid a.0)
    (λ uid. demand BadShape (has_objects d) >>= λ objects. parents >>= λ ps. Ok (record { uid = uid; parents = ps }))
    stated a.2 in
    let c = bind_ok (demand BadShape (has_objects d))
    (λ objects. parents >>= λ ps. Ok (record { uid = b.0; parents = ps })) stated b.2 in
    let p = bind_ok parents (λ ps. Ok (record { uid = b.0; parents = ps })) stated c.2 in
    let name = get_is_clean (codes "uid") d a.0 h (some_of BadShape (get (codes "uid") d) a.0 a.1) in
    carried IsStatedPlainly (record { uid = b.0; parents = p.0 }) stated p.2 (record {
      uid = name_plain a.0 b.0 name b.1;
      parents = parents_plain (get (codes "parents") d) p.0 (λ x. get_is_clean (codes "parents") d x h) p.1;
    })

or_empty_clean : (o : Option Data) → ((d : Data) → o ≡ Some d → IsClean d) → IsClean (or_empty o)
unfolding IsStrictlySortedBy
or_empty_clean None h = record { utf8 = tt; ascend = (tt, tt) }
or_empty_clean (Some d) h = h d refl

attributes_plain : (s : StatedSchema) (name : List ℕ) (d : Data) (fields : List Field) → IsClean d
    → attributes_in s name d ≡ Ok fields → IsPlain (object (fields_json (fields_of fields)))
unfolding attributes_in
attributes_plain s name d fields h e =
    let attrs = or_empty (get (codes "attrs") d) in
    let tags = demand TagsLeftOut (is_absent_or_empty (get (codes "tags") d)) in
    let a = bind_ok (shape_of s name) (λ shape. tags >>= λ u. record_in shape attrs) fields e in
    let b = bind_ok tags (λ u. record_in a.0 attrs) fields a.2 in
    record_plain a.0 attrs fields (or_empty_clean (get (codes "attrs") d) (λ x. get_is_clean (codes "attrs") d x h))
    b.2

set_of_parents : (s : StatedSchema) (uid : EntityUid) (stated parents : List EntityUid) → HavePlainNames stated
    → parents_in s uid stated ≡ Ok parents → HavePlainNames parents
unfolding parents_in
set_of_parents s uid stated parents h e =
    let a = bind_ok (parents_fit s uid stated) (λ fit. Ok (uid_set stated)) parents e in
    carried HavePlainNames (uid_set stated) parents a.2 (set_plain stated h)

whole : (e : Entity) → IsPlain (object (fields_json (fields_of e.attrs))) → HavePlainNames e.parents
    → HasPlainName e.uid → IsPlain (canonical_json e)
whole e attrs parents uid = (
  ascii_is_utf8 (codes "attrs") refl,
  attrs,
  (refl, (refl, tt)),
  (ascii_is_utf8 (codes "parents") refl, parents, (refl, tt), (ascii_is_utf8 (codes "uid") refl, uid, tt, tt)),
)

pub canonical_plain : (s : StatedSchema) (d : Data) (e : Entity) → IsClean d → entity_stated_in s d ≡ Ok e
    → IsPlain (canonical_json e)
unfolding entity_stated_in
canonical_plain s d e h read =
    let a = bind_ok (stated_in d) (λ stated. attributes_in s stated.uid.type_name d
    >>= λ attrs. parents_in s stated.uid stated.parents
    >>= λ parents. Ok (record { uid = stated.uid; attrs = attrs; parents = parents })) e read in
    let b = bind_ok (attributes_in s a.0.uid.type_name d) (λ attrs. parents_in s a.0.uid a.0.parents
    >>= λ parents. Ok (record { uid = a.0.uid; attrs = attrs; parents = parents })) e a.2 in
    let c = bind_ok (parents_in s a.0.uid a.0.parents)
    (λ parents. Ok (record { uid = a.0.uid; attrs = b.0; parents = parents })) e b.2 in
    let built : Entity = record { uid = a.0.uid; attrs = b.0; parents = c.0 } in
    let stated = stated_plain d a.0 h a.1 in
    let attrs = attributes_plain s a.0.uid.type_name d b.0 h b.1 in
    let parents = set_of_parents s a.0.uid a.0.parents c.0 stated.parents c.1 in
    carried (λ (x : Entity). IsPlain (canonical_json x)) built e c.2 (whole built attrs parents stated.uid)
