-- What was read by a type from JSON that bytes are has plain JSON.
use Rattle.std.proofs.Common.{◌≡◌, ℕ, List, [], ◌∷◌, Option, Some, None, Result, Ok, Err, refl, subst}
use Rattle.std.proofs.Common.{Less, Equal, Greater}
use Rattle.std.specs.Prelude.{codes}
use Rattle.std.specs.List.{AllByRecursion}
use Rattle.std.specs.List.Sorted.{IsStrictlySortedBy}
use Rattle.std.specs.Ordering.{nat_cmp, match_ordering}
use Rattle.std.specs.Cmp.Lexicographic.{slice_cmp}
use Rattle.std.specs.Str.{bytes_eq}
use Rattle.serde_json.specs.Data.{Data, Items, no_items, item, Members, no_members, member}
use Rattle.serde_json.specs.Data as json
use Rattle.serde_json.specs.Find.{as_bool, as_number, as_i64, as_str, as_object}
use Rattle.json_words.specs.ReadsAs.{◌>>=◌, or_fault, demand}
use Rattle.json_words.specs.Ascending.{Ascend, member_keys, ItemsAscend, MembersAscend}
use Rattle.json_words.specs.Plain.{AreAbove, IsPlain, ArePlain, HasPlain}
use Rattle.json_words.proofs.AsciiLemmas.{ascii_is_utf8}
use Rattle.json_words.proofs.EachLemmas.{bind_ok}
use Rattle.values.specs.Values.{PlainValue, boolean, long, text, entity, decimal, ipaddr, set, record_of}
use Rattle.values.specs.Values.{values_of, fields_of}
use Rattle.values.specs.Fields.{Field}
use Rattle.values.specs.ValueOrder.{value_cmp}
use Rattle.values.specs.Sets.{put_value, set_list}
use Rattle.schema_types.specs.Cedar as cedar
use Rattle.schema_types.specs.Cedar.{Cedar, CedarFields}
use Rattle.entity_uids.specs.Uids.{uid_in}
use Rattle.entities.specs.declared.fault.EntityFault.{EntityFault}
use Rattle.entities.specs.declared.fault.EntityFault.TheVariants.{WrongType, Undeclared, Missing}
use Rattle.entities.specs.Parts.{element_of, fields_in, declared_at}
use Rattle.values.specs.extensions.TextsDecided.{decimal_of, network_of}
use Rattle.entities.specs.Typing.{argument_in, boolean_in, is_long, long_of, long_in, text_in, entity_in}
use Rattle.entities.specs.Typing.{decimal_in, ipaddr_in, leaf, all_there, with_or, inside, typed_value}
use Rattle.entities.specs.Typing.{typed_items}
use Rattle.entities.specs.Typing.{typed_members, record_in}
use Rattle.entities.specs.CanonicalValues.{value_json, values_json, fields_json}
use Rattle.entities.specs.Texts.{HaveUtf8, MembersHaveUtf8}
use Rattle.entities.proofs.Steps.{carried, some_of, passes}
use Rattle.entities.proofs.PlainParts.{IsClean, str_is_utf8, uid_is_utf8, entity_is_plain, long_is_whole}
use Rattle.entities.proofs.PlainParts.{decimal_text_is_utf8, network_text_is_utf8, call_is_plain}

inside_ok : {A : Type 0} (r : Result A EntityFault) (x : A) → inside r ≡ Ok x → r ≡ Ok x
inside_ok (Ok y) x e = e
inside_ok (Err f) x e = absurd cc

abbrev HasPlainJson : PlainValue → Type 0
HasPlainJson v = IsPlain (value_json v)

-- ---- a value that is no set and no record

boolean_plain : (d : Data) (v : PlainValue) → boolean_in d ≡ Ok v → HasPlainJson v
unfolding boolean_in
boolean_plain d v e =
    let a = bind_ok (or_fault WrongType (as_bool d)) (λ b. Ok (boolean b)) v e in
    carried HasPlainJson (boolean a.0) v a.2 tt

long_plain : (d : Data) (v : PlainValue) → long_in d ≡ Ok v → HasPlainJson v
unfolding long_in
long_plain d v e =
    let a = bind_ok (or_fault WrongType (as_number d)) (λ n. or_fault WrongType (as_i64 n) >>= λ z. long_of z) v e in
    let b = bind_ok (or_fault WrongType (as_i64 a.0)) (λ z. long_of z) v a.2 in
    let c = bind_ok (demand WrongType (is_long b.0)) (λ u. Ok (long b.0)) v b.2 in
    carried HasPlainJson (long b.0) v c.2 (long_is_whole b.0 (passes WrongType (is_long b.0) c.0 c.1))

text_plain : (d : Data) (v : PlainValue) → IsClean d → text_in d ≡ Ok v → HasPlainJson v
unfolding text_in
text_plain d v h e =
    let a = bind_ok (or_fault WrongType (as_str d)) (λ s. Ok (text s)) v e in
    carried HasPlainJson (text a.0) v a.2 (str_is_utf8 d a.0 h.utf8 (some_of WrongType (as_str d) a.0 a.1))

entity_plain : (name : List ℕ) (d : Data) (v : PlainValue) → IsClean d → entity_in name d ≡ Ok v → HasPlainJson v
unfolding entity_in
entity_plain name d v h e =
    let a = bind_ok (or_fault WrongType (uid_in d))
    (λ u. demand WrongType (bytes_eq u.type_name name) >>= λ q. Ok (entity u)) v e in
    let b = bind_ok (demand WrongType (bytes_eq a.0.type_name name)) (λ q. Ok (entity a.0)) v a.2 in
    let uid = uid_is_utf8 d a.0 h (some_of WrongType (uid_in d) a.0 a.1) in
    carried HasPlainJson (entity a.0) v b.2 (entity_is_plain a.0 uid)

decimal_plain : (d : Data) (v : PlainValue) → decimal_in d ≡ Ok v → HasPlainJson v
unfolding decimal_in
decimal_plain d v e =
    let a = bind_ok (argument_in (codes "decimal") d)
    (λ s. or_fault WrongType (decimal_of s) >>= λ z. Ok (decimal z)) v e in
    let b = bind_ok (or_fault WrongType (decimal_of a.0)) (λ z. Ok (decimal z)) v a.2 in
    carried HasPlainJson (decimal b.0) v b.2
    (call_is_plain (codes "decimal") _ (ascii_is_utf8 (codes "decimal") refl) (decimal_text_is_utf8 b.0))

ipaddr_plain : (d : Data) (v : PlainValue) → ipaddr_in d ≡ Ok v → HasPlainJson v
unfolding ipaddr_in
ipaddr_plain d v e =
    let a = bind_ok (argument_in (codes "ip") d)
    (λ s. or_fault WrongType (network_of s) >>= λ n. Ok (ipaddr n)) v e in
    let b = bind_ok (or_fault WrongType (network_of a.0)) (λ n. Ok (ipaddr n)) v a.2 in
    carried HasPlainJson (ipaddr b.0) v b.2
    (call_is_plain (codes "ip") _ (ascii_is_utf8 (codes "ip") refl) (network_text_is_utf8 b.0))

leaf_plain : (t : Cedar) (d : Data) (v : PlainValue) → IsClean d → leaf t d ≡ Ok v → HasPlainJson v
leaf_plain cedar.boolean d v h e = boolean_plain d v e
leaf_plain cedar.long d v h e = long_plain d v e
leaf_plain cedar.text d v h e = text_plain d v h e
leaf_plain (cedar.entity name) d v h e = entity_plain name d v h e
leaf_plain (cedar.set t) d v h e = absurd cc
leaf_plain (cedar.record_of fs) d v h e = absurd cc
leaf_plain cedar.decimal d v h e = decimal_plain d v e
leaf_plain cedar.ipaddr d v h e = ipaddr_plain d v e

-- ---- sets

abbrev HavePlainJson : List PlainValue → Type 0
HavePlainJson vs = ArePlain (values_json (values_of vs))

put_plain : (v : PlainValue) (ws : List PlainValue) → HasPlainJson v → HavePlainJson ws
    → HavePlainJson (put_value v ws)
put_plain v [] p a = (p, a)
put_plain v (w ∷ ws) p a =
    elim (value_cmp v w) as (λ o. HavePlainJson (match_ordering o (v ∷ w ∷ ws) (w ∷ ws) (w ∷ put_value v ws))) [
      | Less ↦ (p, a)
      | Equal ↦ a
      | Greater ↦ (a.0, put_plain v ws p a.1)
    ]

set_plain : (vs : List PlainValue) → HavePlainJson vs → HavePlainJson (set_list vs)
set_plain [] a = a
set_plain (v ∷ vs) a = put_plain v (set_list vs) a.0 (set_plain vs a.1)

-- ---- records

abbrev FieldsHavePlainJson : List Field → Type 0
FieldsHavePlainJson vs = HasPlain (fields_json (fields_of vs))

-- the keys of a record are those of the object
above_kept : (k : List ℕ) (fs : CedarFields) (ms : Members) (vs : List Field) → typed_members fs ms ≡ Ok vs
    → AllByRecursion (λ l. slice_cmp nat_cmp k l ≡ Less) (member_keys ms) → AreAbove k (fields_json (fields_of vs))
unfolding typed_value
above_kept k fs no_members vs e a = carried (λ (ws : List Field). AreAbove k (fields_json (fields_of ws))) [] vs e tt
above_kept k fs (member l d ms) vs e a =
    let x = bind_ok (or_fault Undeclared (declared_at l fs))
    (λ t. typed_value t d >>= λ v. typed_members fs ms >>= λ ws. Ok ((l, v) ∷ ws)) vs e in
    let y = bind_ok (typed_value x.0 d) (λ v. typed_members fs ms >>= λ ws. Ok ((l, v) ∷ ws)) vs x.2 in
    let z = bind_ok (typed_members fs ms) (λ ws. Ok ((l, y.0) ∷ ws)) vs y.2 in
    carried (λ (ws : List Field). AreAbove k (fields_json (fields_of ws))) ((l, y.0) ∷ z.0) vs z.2
    (a.0, above_kept k fs ms z.0 z.1 a.1)

object_plain : (t : Cedar) (o : Option CedarFields) (ms : Members) (v : PlainValue) → IsClean (json.object ms)
    → ((fs : CedarFields) (vs : List Field) → typed_members fs ms ≡ Ok vs → FieldsHavePlainJson vs)
    → with_or o (λ fs. inside (typed_members fs ms) >>= λ vs. demand WrongType (all_there fs (json.object ms))
    >>= λ there. Ok (record_of (fields_of vs))) (leaf t (json.object ms)) ≡ Ok v → HasPlainJson v
object_plain t None ms v h more e = leaf_plain t (json.object ms) v h e
object_plain t (Some fs) ms v h more e =
    let there = demand WrongType (all_there fs (json.object ms)) in
    let b = bind_ok (inside (typed_members fs ms)) (λ vs. there >>= λ u. Ok (record_of (fields_of vs))) v e in
    let c = bind_ok there (λ u. Ok (record_of (fields_of b.0))) v b.2 in
    carried HasPlainJson (record_of (fields_of b.0)) v c.2
    (more fs b.0 (inside_ok (typed_members fs ms) b.0 b.1))

-- ---- values

mutual
  unfolding typed_value IsStrictlySortedBy

  value_plain : (t : Cedar) (d : Data) (v : PlainValue) → IsClean d → typed_value t d ≡ Ok v → HasPlainJson v
  value_plain t json.null v h e = leaf_plain t json.null v h e
  value_plain t (json.boolean b) v h e = leaf_plain t (json.boolean b) v h e
  value_plain t (json.number n) v h e = leaf_plain t (json.number n) v h e
  value_plain t (json.string x) v h e = leaf_plain t (json.string x) v h e
  value_plain t (json.array ds) v h e =
      let a = bind_ok (or_fault WrongType (element_of t))
      (λ x. typed_items x ds >>= λ vs. Ok (set (values_of (set_list vs)))) v e in
      let b = bind_ok (typed_items a.0 ds) (λ vs. Ok (set (values_of (set_list vs)))) v a.2 in
      carried HasPlainJson (set (values_of (set_list b.0))) v b.2
      (set_plain b.0 (items_plain a.0 ds b.0 h.utf8 h.ascend b.1))
  value_plain t (json.object ms) v h e = object_plain t (fields_in t) ms v h
      (λ fs vs r. members_plain fs ms vs h.utf8 h.ascend.0 h.ascend.1 r) e

  items_plain : (t : Cedar) (ds : Items) (vs : List PlainValue) → HaveUtf8 ds → ItemsAscend ds
      → typed_items t ds ≡ Ok vs → HavePlainJson vs
  items_plain t no_items vs u a e = carried HavePlainJson [] vs e tt
  items_plain t (item d ds) vs u a e =
      let x = bind_ok (typed_value t d) (λ v. typed_items t ds >>= λ ws. Ok (v ∷ ws)) vs e in
      let y = bind_ok (typed_items t ds) (λ ws. Ok (x.0 ∷ ws)) vs x.2 in
      carried HavePlainJson (x.0 ∷ y.0) vs y.2
      (value_plain t d x.0 (record { utf8 = u.0; ascend = a.0 }) x.1, items_plain t ds y.0 u.1 a.1 y.1)

  members_plain : (fs : CedarFields) (ms : Members) (vs : List Field) → MembersHaveUtf8 ms → Ascend (member_keys ms)
      → MembersAscend ms → typed_members fs ms ≡ Ok vs → FieldsHavePlainJson vs
  members_plain fs no_members vs u k a e = carried FieldsHavePlainJson [] vs e tt
  members_plain fs (member l d ms) vs u k a e =
      let x = bind_ok (or_fault Undeclared (declared_at l fs))
      (λ t. typed_value t d >>= λ v. typed_members fs ms >>= λ ws. Ok ((l, v) ∷ ws)) vs e in
      let y = bind_ok (typed_value x.0 d) (λ v. typed_members fs ms >>= λ ws. Ok ((l, v) ∷ ws)) vs x.2 in
      let z = bind_ok (typed_members fs ms) (λ ws. Ok ((l, y.0) ∷ ws)) vs y.2 in
      carried FieldsHavePlainJson ((l, y.0) ∷ z.0) vs z.2 (
        u.0,
        value_plain x.0 d y.0 (record { utf8 = u.1; ascend = a.0 }) y.1,
        above_kept l fs ms z.0 z.1 k.0,
        members_plain fs ms z.0 u.2 k.1 a.1 z.1,
      )

-- ---- records that stand alone

object_is : (d : Data) (ms : Members) → as_object d ≡ Some ms → d ≡ json.object ms
object_is json.null ms e = absurd cc
object_is (json.boolean b) ms e = absurd cc
object_is (json.number n) ms e = absurd cc
object_is (json.string x) ms e = absurd cc
object_is (json.array ds) ms e = absurd cc
object_is (json.object ns) ms e = cc

pub record_plain : (t : Cedar) (d : Data) (vs : List Field) → IsClean d → record_in t d ≡ Ok vs
    → IsPlain (json.object (fields_json (fields_of vs)))
unfolding record_in
record_plain t d vs h e =
    let a = bind_ok (or_fault WrongType (fields_in t))
    (λ fs. or_fault WrongType (as_object d) >>= λ ms. typed_members fs ms >>= λ ws. demand Missing (all_there fs d)
    >>= λ there. Ok ws) vs e in
    let b = bind_ok (or_fault WrongType (as_object d))
    (λ ms. typed_members a.0 ms >>= λ ws. demand Missing (all_there a.0 d) >>= λ there. Ok ws) vs a.2 in
    let c = bind_ok (typed_members a.0 b.0) (λ ws. demand Missing (all_there a.0 d) >>= λ there. Ok ws) vs b.2 in
    let g = bind_ok (demand Missing (all_there a.0 d)) (λ there. Ok c.0) vs c.2 in
    let is : d ≡ json.object b.0 = object_is d b.0 (some_of WrongType (as_object d) b.0 b.1) in
    let clean : IsClean (json.object b.0) = subst IsClean is h in
    carried FieldsHavePlainJson c.0 vs g.2 (members_plain a.0 b.0 c.0 clean.utf8 clean.ascend.0 clean.ascend.1 c.1)
