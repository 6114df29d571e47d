-- The one JSON of a value that was read nests no deeper than its type allows.
use Rattle.std.proofs.Common.{◌≡◌, ℕ, suc, ◌≤◌, List, [], ◌∷◌, Bool, true, false, cond, Option, Some, None, Ok, refl}
use Rattle.std.proofs.Common.{ap, subst, arith}
use Rattle.std.specs.Prelude.{max, codes}
use Rattle.std.specs.List.{AllByRecursion}
use Rattle.std.specs.Str.{bytes_eq}
use Rattle.serde_json.specs.Data.{Data, Items, no_items, item, Members, no_members, member, depth, items_depth}
use Rattle.serde_json.specs.Data.{members_depth}
use Rattle.serde_json.specs.Data as json
use Rattle.serde_json.specs.Find.{as_bool, as_number, as_i64, as_str}
use Rattle.json_words.specs.ReadsAs.{◌>>=◌, or_fault, demand}
use Rattle.json_words.proofs.EachLemmas.{bind_ok}
use Rattle.values.specs.Values.{PlainValue, boolean, long, text, entity, decimal, ipaddr, set, record_of, values_of}
use Rattle.values.specs.Values.{fields_of}
use Rattle.values.specs.Sets.{set_list}
use Rattle.entities.specs.declared.fault.EntityFault.TheVariants.{WrongType, Undeclared}
use Rattle.schema_types.specs.Cedar as cedar
use Rattle.schema_types.specs.Cedar.{Cedar, CedarFields, no_fields, field, deep, field_depth}
use Rattle.entities.specs.Parts.{element_of, fields_in, declared_at}
use Rattle.entity_uids.specs.Uids.{uid_in}
use Rattle.values.specs.extensions.TextsDecided.{decimal_of, network_of}
use Rattle.entities.specs.Typing.{argument_in, boolean_in, is_long, long_of, long_in, text_in, entity_in}
use Rattle.entities.specs.Typing.{decimal_in, ipaddr_in, leaf, all_there, with_or, inside, typed_value, typed_items}
use Rattle.entities.specs.Typing.{typed_members, record_in}
use Rattle.entities.specs.CanonicalValues.{value_json, values_json, fields_json}
use Rattle.entities.proofs.Sets.{all_set}
use Rattle.entities.proofs.ValueLeaves.{ok_is, some_of, some_from, inside_ok}
use Rattle.entities.proofs.Again.{record_parts}

-- one more than the type
abbrev pub room : Cedar → ℕ
room t = suc (deep t)

abbrev pub rooms : CedarFields → ℕ
rooms fs = suc (field_depth fs)

abbrev Fits : ℕ → PlainValue → Type 0
Fits n v = depth (value_json v) ≤ n

leaf_fits : (t : Cedar) (d : Data) (v : PlainValue) → leaf t d ≡ Ok v → Fits (room t) v
unfolding boolean_in long_in text_in entity_in decimal_in ipaddr_in
leaf_fits cedar.boolean d v e =
    let a = bind_ok (or_fault WrongType (as_bool d)) (λ b. Ok (boolean b)) v e in subst (Fits 2) (ok_is (boolean a.0) v a.2) (omega arith)
leaf_fits cedar.long d v e =
    let a = bind_ok (or_fault WrongType (as_number d)) (λ n. or_fault WrongType (as_i64 n) >>= λ z. long_of z) v e in
    let b = bind_ok (or_fault WrongType (as_i64 a.0)) (λ z. long_of z) v a.2 in
    let c = bind_ok (demand WrongType (is_long b.0)) (λ u. Ok (long b.0)) v b.2 in subst (Fits 2) (ok_is (long b.0) v c.2) (omega arith)
leaf_fits cedar.text d v e =
    let a = bind_ok (or_fault WrongType (as_str d)) (λ s. Ok (text s)) v e in subst (Fits 2) (ok_is (text a.0) v a.2) (omega arith)
leaf_fits (cedar.entity name) d v e =
    let a = bind_ok (or_fault WrongType (uid_in d)) (λ u. demand WrongType (bytes_eq u.type_name name) >>= λ q. Ok (entity u)) v e in
    let b = bind_ok (demand WrongType (bytes_eq a.0.type_name name)) (λ q. Ok (entity a.0)) v a.2 in subst (Fits 2) (ok_is (entity a.0) v b.2) (omega arith)
leaf_fits (cedar.set t) d v e = absurd cc
leaf_fits (cedar.record_of fs) d v e = absurd cc
leaf_fits cedar.decimal d v e =
    let a = bind_ok (argument_in (codes "decimal") d) (λ s. or_fault WrongType (decimal_of s) >>= λ z. Ok (decimal z)) v e in
    let b = bind_ok (or_fault WrongType (decimal_of a.0)) (λ z. Ok (decimal z)) v a.2 in subst (Fits 2) (ok_is (decimal b.0) v b.2) (omega arith)
leaf_fits cedar.ipaddr d v e =
    let a = bind_ok (argument_in (codes "ip") d) (λ s. or_fault WrongType (network_of s) >>= λ n. Ok (ipaddr n)) v e in
    let b = bind_ok (or_fault WrongType (network_of a.0)) (λ n. Ok (ipaddr n)) v a.2 in subst (Fits 2) (ok_is (ipaddr b.0) v b.2) (omega arith)

items_fit : (n : ℕ) (vs : List PlainValue) → AllByRecursion (Fits n) vs → items_depth (values_json (values_of vs)) ≤ n
items_fit n [] h = omega arith
items_fit n (v ∷ vs) h = let first : depth (value_json v) ≤ n = h.0 in omega (arith, first, items_fit n vs h.1)

fields_fit : (n : ℕ) (vs : List (List ℕ × PlainValue)) → AllByRecursion (λ f. Fits n f.1) vs → members_depth (fields_json (fields_of vs)) ≤ n
fields_fit n [] h = omega arith
fields_fit n (f ∷ fs) h = let first : depth (value_json f.1) ≤ n = h.0 in omega (arith, first, fields_fit n fs h.1)

room_here : (k : List ℕ) (u : Cedar) (fs : CedarFields) (t : Cedar) (b : Bool) → (declared_at k fs ≡ Some t → room t ≤ rooms fs) → cond b (Some u) (declared_at k fs) ≡ Some t → room t ≤ suc (max (deep u) (field_depth fs))
room_here k u fs t true more e = let same : u ≡ t = cc in subst (λ (s : Cedar). room s ≤ suc (max (deep u) (field_depth fs))) same (omega arith)
room_here k u fs t false more e = omega (arith, more e)

room_at : (k : List ℕ) (fs : CedarFields) (t : Cedar) → declared_at k fs ≡ Some t → room t ≤ rooms fs
room_at k no_fields t e = absurd cc
room_at k (field l u r fs) t e = room_here k u fs t (bytes_eq l k) (λ h. room_at k fs t h) e

element_room : (t x : Cedar) → element_of t ≡ Some x → room t ≡ suc (room x)
element_room cedar.boolean x e = absurd cc
element_room cedar.long x e = absurd cc
element_room cedar.text x e = absurd cc
element_room (cedar.entity name) x e = absurd cc
element_room (cedar.set u) x e = let same : u ≡ x = cc in ap (λ (s : Cedar). suc (room s)) same
element_room (cedar.record_of fs) x e = absurd cc
element_room cedar.decimal x e = absurd cc
element_room cedar.ipaddr x e = absurd cc

fields_room : (t : Cedar) (gs : CedarFields) → fields_in t ≡ Some gs → room t ≡ suc (rooms gs)
fields_room cedar.boolean gs e = absurd cc
fields_room cedar.long gs e = absurd cc
fields_room cedar.text gs e = absurd cc
fields_room (cedar.entity name) gs e = absurd cc
fields_room (cedar.set u) gs e = absurd cc
fields_room (cedar.record_of fs) gs e = let same : fs ≡ gs = cc in ap (λ (s : CedarFields). suc (rooms s)) same
fields_room cedar.decimal gs e = absurd cc
fields_room cedar.ipaddr gs e = absurd cc

set_fits : (t x : Cedar) (vs : List PlainValue) → element_of t ≡ Some x → AllByRecursion (Fits (room x)) vs → Fits (room t) (set (values_of (set_list vs)))
set_fits t x vs e h = omega (arith, element_room t x e, items_fit (room x) (set_list vs) (all_set (Fits (room x)) vs h))

object_fits : (t : Cedar) (o : Option CedarFields) (ms : Members) (v : PlainValue) → fields_in t ≡ o
    → ((fs : CedarFields) (vs : List (List ℕ × PlainValue)) → typed_members fs ms ≡ Ok vs → AllByRecursion (λ f. Fits (rooms fs) f.1) vs)
    → with_or o (λ fs. inside (typed_members fs ms) >>= λ vs. demand WrongType (all_there fs (json.object ms)) >>= λ there. Ok (record_of (fields_of vs))) (leaf t (json.object ms)) ≡ Ok v → Fits (room t) v
object_fits t None ms v is more e = leaf_fits t (json.object ms) v e
object_fits t (Some fs) ms v is more e =
    let b = bind_ok (inside (typed_members fs ms)) (λ vs. demand WrongType (all_there fs (json.object ms)) >>= λ u. Ok (record_of (fields_of vs))) v e in
    let c = bind_ok (demand WrongType (all_there fs (json.object ms))) (λ u. Ok (record_of (fields_of b.0))) v b.2 in
    subst (Fits (room t)) (ok_is (record_of (fields_of b.0)) v c.2) (omega (arith, fields_room t fs is, fields_fit (rooms fs) b.0 (more fs b.0 (inside_ok (typed_members fs ms) b.0 b.1))))

mutual
  unfolding typed_value

  fits : (t : Cedar) (d : Data) (v : PlainValue) → typed_value t d ≡ Ok v → Fits (room t) v
  fits t json.null v e = leaf_fits t json.null v e
  fits t (json.boolean b) v e = leaf_fits t (json.boolean b) v e
  fits t (json.number n) v e = leaf_fits t (json.number n) v e
  fits t (json.string x) v e = leaf_fits t (json.string x) v e
  fits t (json.array ds) v e =
      let a = bind_ok (or_fault WrongType (element_of t)) (λ x. typed_items x ds >>= λ vs. Ok (set (values_of (set_list vs)))) v e in
      let b = bind_ok (typed_items a.0 ds) (λ vs. Ok (set (values_of (set_list vs)))) v a.2 in
      subst (Fits (room t)) (ok_is (set (values_of (set_list b.0))) v b.2) (set_fits t a.0 b.0 (some_of (element_of t) a.0 a.1) (items_fits a.0 ds b.0 b.1))
  fits t (json.object ms) v e = object_fits t (fields_in t) ms v refl (λ fs vs r. members_fits fs ms vs r) e

  items_fits : (t : Cedar) (ds : Items) (vs : List PlainValue) → typed_items t ds ≡ Ok vs → AllByRecursion (Fits (room t)) vs
  items_fits t no_items vs e = subst (AllByRecursion (Fits (room t))) (ok_is [] vs e) tt
  items_fits t (item d ds) vs e =
      let a = bind_ok (typed_value t d) (λ v. typed_items t ds >>= λ ws. Ok (v ∷ ws)) vs e in
      let b = bind_ok (typed_items t ds) (λ ws. Ok (a.0 ∷ ws)) vs a.2 in
      subst (AllByRecursion (Fits (room t))) (ok_is (a.0 ∷ b.0) vs b.2) (fits t d a.0 a.1, items_fits t ds b.0 b.1)

  members_fits : (fs : CedarFields) (ms : Members) (vs : List (List ℕ × PlainValue)) → typed_members fs ms ≡ Ok vs → AllByRecursion (λ f. Fits (rooms fs) f.1) vs
  members_fits fs no_members vs e = subst (AllByRecursion (λ f. Fits (rooms fs) f.1)) (ok_is [] vs e) tt
  members_fits fs (member l d ms) vs e =
      let a = bind_ok (or_fault Undeclared (declared_at l fs)) (λ t. typed_value t d >>= λ v. typed_members fs ms >>= λ ws. Ok ((l, v) ∷ ws)) vs e in
      let b = bind_ok (typed_value a.0 d) (λ v. typed_members fs ms >>= λ ws. Ok ((l, v) ∷ ws)) vs a.2 in
      let c = bind_ok (typed_members fs ms) (λ ws. Ok ((l, b.0) ∷ ws)) vs b.2 in
      let first : depth (value_json b.0) ≤ room a.0 = fits a.0 d b.0 b.1 in
      subst (AllByRecursion (λ f. Fits (rooms fs) f.1)) (ok_is ((l, b.0) ∷ c.0) vs c.2) (omega (arith, first, room_at l fs a.0 (some_from Undeclared (declared_at l fs) a.0 a.1)), members_fits fs ms c.0 c.1)

pub value_fits : (t : Cedar) (d : Data) (v : PlainValue) → typed_value t d ≡ Ok v → depth (value_json v) ≤ room t
value_fits t d v e = fits t d v e

pub record_fits : (t : Cedar) (d : Data) (vs : List (List ℕ × PlainValue)) → record_in t d ≡ Ok vs → depth (json.object (fields_json (fields_of vs))) ≤ room t
record_fits t d vs e =
    let p = record_parts t d vs e in
    omega (arith, fields_room t p.fields (some_of (fields_in t) p.fields p.is_record), fields_fit (rooms p.fields) vs (members_fits p.fields p.members vs p.read))
