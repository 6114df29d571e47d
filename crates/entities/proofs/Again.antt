-- The one JSON of a value that was read is read as that value.
use Rattle.std.proofs.Common.{◌≡◌, ◌∙◌, ℕ, List, [], ◌∷◌, Bool, false, Option, Some, None, Ok, Ordering, Less, Equal, Greater, refl, sym, ap, subst}
use Rattle.std.specs.Prelude.{⊤, is_some}
use Rattle.std.specs.List.{AllByRecursion}
use Rattle.std.specs.Ordering.{nat_cmp, match_ordering}
use Rattle.std.specs.Cmp.Lexicographic.{slice_cmp}
use Rattle.serde_json.specs.Data.{Data, Items, no_items, item, Members, no_members, member}
use Rattle.serde_json.specs.Data as json
use Rattle.serde_json.specs.Find.{get_member, as_object}
use Rattle.json_words.specs.ReadsAs.{◌>>=◌, or_fault, demand}
use Rattle.json_words.proofs.EachLemmas.{bind_ok}
use Rattle.values.specs.Values.{PlainValue, set, record_of, values_of, fields_of}
use Rattle.values.specs.Sets.{set_list}
use Rattle.entities.specs.declared.fault.EntityFault.TheVariants.{WrongType, Undeclared, Missing}
use Rattle.schema_types.specs.Cedar.{Cedar, CedarFields, no_fields, field}
use Rattle.entities.specs.Parts.{element_of, fields_in, declared_at}
use Rattle.entities.specs.Typing.{leaf, all_there, with_or, inside, typed_value, typed_items, typed_members, record_in}
use Rattle.entities.specs.CanonicalValues.{value_json, values_json, fields_json}
use Rattle.entities.proofs.Sets.{all_set, set_again}
use Rattle.entities.proofs.ValueLeaves.{ok_is, some_from, inside_ok, leaf_again}

-- the JSON of v is read as v
abbrev ReadsBack : Cedar → PlainValue → Type 0
ReadsBack t v = typed_value t (value_json v) ≡ Ok v

-- ---- which keys there are

some_at : (o : Ordering) (a b : Option Data) (d e : Data) → is_some a ≡ is_some b → is_some (match_ordering o a (Some d) a) ≡ is_some (match_ordering o b (Some e) b)
some_at Less a b d e h = h
some_at Equal a b d e h = refl
some_at Greater a b d e h = h

keys_kept : (fs : CedarFields) (ms : Members) (vs : List (List ℕ × PlainValue)) → typed_members fs ms ≡ Ok vs → (k : List ℕ) → is_some (get_member k ms) ≡ is_some (get_member k (fields_json (fields_of vs)))
unfolding typed_value
keys_kept fs no_members vs e k = subst (λ (ws : List (List ℕ × PlainValue)). false ≡ is_some (get_member k (fields_json (fields_of ws)))) (ok_is [] vs e) refl
keys_kept fs (member l d ms) vs e k =
    let a = bind_ok (or_fault Undeclared (declared_at l fs)) (λ t. typed_value t d >>= λ v. typed_members fs ms >>= λ ws. Ok ((l, v) ∷ ws)) vs e in
    let b = bind_ok (typed_value a.0 d) (λ v. typed_members fs ms >>= λ ws. Ok ((l, v) ∷ ws)) vs a.2 in
    let c = bind_ok (typed_members fs ms) (λ ws. Ok ((l, b.0) ∷ ws)) vs b.2 in
    subst (λ (ws : List (List ℕ × PlainValue)). is_some (get_member k (member l d ms)) ≡ is_some (get_member k (fields_json (fields_of ws)))) (ok_is ((l, b.0) ∷ c.0) vs c.2)
    (some_at (slice_cmp nat_cmp k l) (get_member k ms) (get_member k (fields_json (fields_of c.0))) d (value_json b.0) (keys_kept fs ms c.0 c.1 k))

there_kept : (fs : CedarFields) (ms ns : Members) → ((k : List ℕ) → is_some (get_member k ms) ≡ is_some (get_member k ns)) → all_there fs (json.object ms) ≡ all_there fs (json.object ns)
there_kept no_fields ms ns same = refl
there_kept (field k t r fs) ms ns same = rw (same k, there_kept fs ms ns same) refl

-- ---- one step of reading, forwards

array_step : (t x : Cedar) (ds : Items) (vs : List PlainValue) → or_fault WrongType (element_of t) ≡ Ok x → typed_items x ds ≡ Ok vs → typed_value t (json.array ds) ≡ Ok (set (values_of (set_list vs)))
unfolding typed_value
array_step t x ds vs kind read = rw (kind, read) refl

object_step : (t : Cedar) (fs : CedarFields) (ms : Members) (vs : List (List ℕ × PlainValue)) (u : ⊤) → fields_in t ≡ Some fs → typed_members fs ms ≡ Ok vs → demand WrongType (all_there fs (json.object ms)) ≡ Ok u
    → typed_value t (json.object ms) ≡ Ok (record_of (fields_of vs))
unfolding typed_value
object_step t fs ms vs u kind read there = rw (kind, read, there) refl

item_step : (t : Cedar) (d : Data) (ds : Items) (v : PlainValue) (vs : List PlainValue) → typed_value t d ≡ Ok v → typed_items t ds ≡ Ok vs → typed_items t (item d ds) ≡ Ok (v ∷ vs)
unfolding typed_value
item_step t d ds v vs one more = rw (one, more) refl

member_step : (fs : CedarFields) (k : List ℕ) (d : Data) (ms : Members) (t : Cedar) (v : PlainValue) (vs : List (List ℕ × PlainValue)) → or_fault Undeclared (declared_at k fs) ≡ Ok t → typed_value t d ≡ Ok v → typed_members fs ms ≡ Ok vs
    → typed_members fs (member k d ms) ≡ Ok ((k, v) ∷ vs)
unfolding typed_value
member_step fs k d ms t v vs here one more = rw (here, one, more) refl

-- values that each read back are read, in their order
all_read : (t : Cedar) (vs : List PlainValue) → AllByRecursion (ReadsBack t) vs → typed_items t (values_json (values_of vs)) ≡ Ok vs
unfolding typed_value
all_read t [] h = refl
all_read t (v ∷ vs) h = item_step t (value_json v) (values_json (values_of vs)) v vs h.0 (all_read t vs h.1)

-- A set is read back from its ascending members.
set_step : (t x : Cedar) (vs : List PlainValue) → or_fault WrongType (element_of t) ≡ Ok x → AllByRecursion (ReadsBack x) vs → ReadsBack t (set (values_of (set_list vs)))
set_step t x vs kind h =
    array_step t x (values_json (values_of (set_list vs))) (set_list vs) kind (all_read x (set_list vs) (all_set (ReadsBack x) vs h))
    ∙ ap (λ (ws : List PlainValue). Ok (set (values_of ws))) (set_again vs)

-- an object, where its members read back
object_again : (t : Cedar) (o : Option CedarFields) (ms : Members) (v : PlainValue) → fields_in t ≡ o
    → ((fs : CedarFields) (vs : List (List ℕ × PlainValue)) → typed_members fs ms ≡ Ok vs → typed_members fs (fields_json (fields_of vs)) ≡ Ok vs)
    → with_or o (λ fs. inside (typed_members fs ms) >>= λ vs. demand WrongType (all_there fs (json.object ms)) >>= λ there. Ok (record_of (fields_of vs))) (leaf t (json.object ms)) ≡ Ok v → ReadsBack t v
object_again t None ms v is more e = leaf_again t (json.object ms) v e
object_again t (Some fs) ms v is more e =
    let b = bind_ok (inside (typed_members fs ms)) (λ vs. demand WrongType (all_there fs (json.object ms)) >>= λ u. Ok (record_of (fields_of vs))) v e in
    let read : typed_members fs ms ≡ Ok b.0 = inside_ok (typed_members fs ms) b.0 b.1 in
    let c = bind_ok (demand WrongType (all_there fs (json.object ms))) (λ u. Ok (record_of (fields_of b.0))) v b.2 in
    let kept = there_kept fs ms (fields_json (fields_of b.0)) (keys_kept fs ms b.0 read) in
    subst (ReadsBack t) (ok_is (record_of (fields_of b.0)) v c.2) (object_step t fs (fields_json (fields_of b.0)) b.0 c.0 is (more fs b.0 read) (ap (λ (q : Bool). demand WrongType q) (sym kept) ∙ c.1))

mutual
  unfolding typed_value

  again : (t : Cedar) (d : Data) (v : PlainValue) → typed_value t d ≡ Ok v → ReadsBack t v
  again t json.null v e = leaf_again t json.null v e
  again t (json.boolean b) v e = leaf_again t (json.boolean b) v e
  again t (json.number n) v e = leaf_again t (json.number n) v e
  again t (json.string x) v e = leaf_again t (json.string x) v e
  again t (json.array ds) v e =
      let a = bind_ok (or_fault WrongType (element_of t)) (λ x. typed_items x ds >>= λ vs. Ok (set (values_of (set_list vs)))) v e in
      let b = bind_ok (typed_items a.0 ds) (λ vs. Ok (set (values_of (set_list vs)))) v a.2 in
      subst (ReadsBack t) (ok_is (set (values_of (set_list b.0))) v b.2) (set_step t a.0 b.0 a.1 (items_again a.0 ds b.0 b.1))
  again t (json.object ms) v e = object_again t (fields_in t) ms v refl (λ fs vs r. members_again fs ms vs r) e

  items_again : (t : Cedar) (ds : Items) (vs : List PlainValue) → typed_items t ds ≡ Ok vs → AllByRecursion (ReadsBack t) vs
  items_again t no_items vs e = subst (AllByRecursion (ReadsBack t)) (ok_is [] vs e) tt
  items_again t (item d ds) vs e =
      let a = bind_ok (typed_value t d) (λ v. typed_items t ds >>= λ ws. Ok (v ∷ ws)) vs e in
      let b = bind_ok (typed_items t ds) (λ ws. Ok (a.0 ∷ ws)) vs a.2 in
      subst (AllByRecursion (ReadsBack t)) (ok_is (a.0 ∷ b.0) vs b.2) (again t d a.0 a.1, items_again t ds b.0 b.1)

  members_again : (fs : CedarFields) (ms : Members) (vs : List (List ℕ × PlainValue)) → typed_members fs ms ≡ Ok vs → typed_members fs (fields_json (fields_of vs)) ≡ Ok vs
  members_again fs no_members vs e = subst (λ (ws : List (List ℕ × PlainValue)). typed_members fs (fields_json (fields_of ws)) ≡ Ok ws) (ok_is [] vs e) refl
  members_again fs (member l d ms) vs e =
      let a = bind_ok (or_fault Undeclared (declared_at l fs)) (λ t. typed_value t d >>= λ v. typed_members fs ms >>= λ ws. Ok ((l, v) ∷ ws)) vs e in
      let b = bind_ok (typed_value a.0 d) (λ v. typed_members fs ms >>= λ ws. Ok ((l, v) ∷ ws)) vs a.2 in
      let c = bind_ok (typed_members fs ms) (λ ws. Ok ((l, b.0) ∷ ws)) vs b.2 in
      subst (λ (ws : List (List ℕ × PlainValue)). typed_members fs (fields_json (fields_of ws)) ≡ Ok ws) (ok_is ((l, b.0) ∷ c.0) vs c.2) (member_step fs l (value_json b.0) (fields_json (fields_of c.0)) a.0 b.0 c.0 a.1 (again a.0 d b.0 b.1) (members_again fs ms c.0 c.1))

pub value_again : (t : Cedar) (d : Data) (v : PlainValue) → typed_value t d ≡ Ok v → typed_value t (value_json v) ≡ Ok v
value_again t d v e = again t d v e

-- ---- records

record_step : (t : Cedar) (fs : CedarFields) (ms : Members) (vs : List (List ℕ × PlainValue)) (u : ⊤) → or_fault WrongType (fields_in t) ≡ Ok fs → typed_members fs ms ≡ Ok vs
    → demand Missing (all_there fs (json.object ms)) ≡ Ok u → record_in t (json.object ms) ≡ Ok vs
unfolding record_in
record_step t fs ms vs u kind read there = rw (kind, read, there) refl

members_at : (d : Data) (ms : Members) → as_object d ≡ Some ms → d ≡ json.object ms
members_at json.null ms e = absurd cc
members_at (json.boolean b) ms e = absurd cc
members_at (json.number n) ms e = absurd cc
members_at (json.string s) ms e = absurd cc
members_at (json.array ds) ms e = absurd cc
members_at (json.object ns) ms e = cc

-- what reading a record consists of
pub record RecordParts (t : Cedar) (d : Data) (vs : List (List ℕ × PlainValue)) : Type 0 where
  pub fields : CedarFields
  pub members : Members
  pub is_record : or_fault WrongType (fields_in t) ≡ Ok fields
  pub is_object : d ≡ json.object members
  pub read : typed_members fields members ≡ Ok vs
  pub there : demand Missing (all_there fields (json.object members)) ≡ Ok tt

pub record_parts : (t : Cedar) (d : Data) (vs : List (List ℕ × PlainValue)) → record_in t d ≡ Ok vs → RecordParts t d vs
unfolding record_in
record_parts t d vs e =
    let a = bind_ok (or_fault WrongType (fields_in t)) (λ fs. or_fault WrongType (as_object d) >>= λ ms. typed_members fs ms >>= λ ws. demand Missing (all_there fs d) >>= λ u. Ok ws) vs e in
    let b = bind_ok (or_fault WrongType (as_object d)) (λ ms. typed_members a.0 ms >>= λ ws. demand Missing (all_there a.0 d) >>= λ u. Ok ws) vs a.2 in
    let c = bind_ok (typed_members a.0 b.0) (λ ws. demand Missing (all_there a.0 d) >>= λ u. Ok ws) vs b.2 in
    let there = bind_ok (demand Missing (all_there a.0 d)) (λ u. Ok c.0) vs c.2 in
    let object = members_at d b.0 (some_from WrongType (as_object d) b.0 b.1) in
    record {
      fields = a.0;
      members = b.0;
      is_record = a.1;
      is_object = object;
      read = c.1 ∙ there.2;
      there = ap (λ (x : Data). demand Missing (all_there a.0 x)) (sym object) ∙ there.1;
    }

pub record_again : (t : Cedar) (d : Data) (vs : List (List ℕ × PlainValue)) → record_in t d ≡ Ok vs → record_in t (json.object (fields_json (fields_of vs))) ≡ Ok vs
record_again t d vs e =
    let p = record_parts t d vs e in
    let kept = there_kept p.fields p.members (fields_json (fields_of vs)) (keys_kept p.fields p.members vs p.read) in
    record_step t p.fields (fields_json (fields_of vs)) vs tt p.is_record (members_again p.fields p.members vs p.read)
    (ap (λ (q : Bool). demand Missing q) (sym kept) ∙ p.there)
