-- The reading function gives the values that JSON states.
use Rattle.std.proofs.Common.{◌≡◌, ℕ, List, [], ◌∷◌, Bool, true, Some, Result, Ok, Err, refl, sym, ap, subst}
use Rattle.serde_json.specs.Data.{Data, Items, no_items, item, Members, no_members, member}
use Rattle.serde_json.specs.Data as json
use Rattle.json_words.specs.ReadsAs.{◌>>=◌, or_fault, demand}
use Rattle.json_words.proofs.EachLemmas.{bind_ok}
use Rattle.values.specs.Values as value
use Rattle.values.specs.Values.{PlainValue, values_of, fields_of}
use Rattle.values.specs.Fields.{Field}
use Rattle.values.specs.Sets.{set_list}
use Rattle.values.proofs.Unique.{set_of, set_of_is}
use Rattle.entities.specs.declared.fault.EntityFault.{EntityFault}
use Rattle.entities.specs.declared.fault.EntityFault.TheVariants.{WrongType, Undeclared}
use Rattle.schema_types.specs.Cedar as type
use Rattle.schema_types.specs.Cedar.{Cedar, CedarFields}
use Rattle.entities.specs.Parts.{declared_at}
use Rattle.entities.specs.Typing.{all_there, inside, typed_value, typed_items, typed_members, boolean_in, text_in}
use Rattle.entities.specs.StatedValues.{Reads, ReadItems, ReadMembers}
use Rattle.entities.specs.StatedValues as says
use Rattle.entities.proofs.ReadingSteps.{done, ok_is, some_of, passes}
use Rattle.entities.proofs.Leaves.{Names, leaf_is, is_long_value, is_entity_value, is_decimal_value, is_ipaddr_value}
use Rattle.entities.proofs.Fields.{declared_is, is_declared, required_is, is_required}

inside_ok : {A : Type 0} (r : Result A EntityFault) (x : A) → inside r ≡ done x → r ≡ Ok x
inside_ok (Ok y) x e = e
inside_ok (Err f) x e = absurd cc

module _ (names : Names) where
  mutual
    unfolding typed_value

    pub value_is : (t : Cedar) (d : Data) (v : PlainValue) → typed_value t d ≡ done v → Reads t d v
    value_is t json.null v e = leaf_is names t json.null v e
    value_is t (json.boolean b) v e = leaf_is names t (json.boolean b) v e
    value_is t (json.number n) v e = leaf_is names t (json.number n) v e
    value_is t (json.string s) v e = leaf_is names t (json.string s) v e
    value_is (type.set x) (json.array ds) v e =
        let a = bind_ok (typed_items x ds) (λ vs. Ok (value.set (values_of (set_list vs)))) v e in
        subst (Reads (type.set x) (json.array ds)) (ok_is (value.set (values_of (set_list a.0))) v a.2)
        (says.set x ds a.0 (set_list a.0) (items_are x ds a.0 a.1) (set_of a.0))
    value_is type.text (json.array ds) v e = absurd cc
    value_is type.long (json.array ds) v e = absurd cc
    value_is type.boolean (json.array ds) v e = absurd cc
    value_is type.decimal (json.array ds) v e = absurd cc
    value_is type.ipaddr (json.array ds) v e = absurd cc
    value_is (type.record_of fs) (json.array ds) v e = absurd cc
    value_is (type.entity name) (json.array ds) v e = absurd cc
    value_is (type.record_of fs) (json.object ms) v e =
        let a = bind_ok (inside (typed_members fs ms)) (λ vs. demand WrongType (all_there fs (json.object ms)) >>= λ there. Ok (value.record_of (fields_of vs))) v e in
        let b = bind_ok (demand WrongType (all_there fs (json.object ms))) (λ there. Ok (value.record_of (fields_of a.0))) v a.2 in
        subst (Reads (type.record_of fs) (json.object ms)) (ok_is (value.record_of (fields_of a.0)) v b.2)
        (says.record_of fs ms a.0 (members_are fs ms a.0 (inside_ok (typed_members fs ms) a.0 a.1)) (required_is fs ms (passes WrongType (all_there fs (json.object ms)) b.0 b.1)))
    value_is type.text (json.object ms) v e = leaf_is names type.text (json.object ms) v e
    value_is type.long (json.object ms) v e = leaf_is names type.long (json.object ms) v e
    value_is type.boolean (json.object ms) v e = leaf_is names type.boolean (json.object ms) v e
    value_is type.decimal (json.object ms) v e = leaf_is names type.decimal (json.object ms) v e
    value_is type.ipaddr (json.object ms) v e = leaf_is names type.ipaddr (json.object ms) v e
    value_is (type.set x) (json.object ms) v e = leaf_is names (type.set x) (json.object ms) v e
    value_is (type.entity name) (json.object ms) v e = leaf_is names (type.entity name) (json.object ms) v e

    pub items_are : (t : Cedar) (ds : Items) (vs : List PlainValue) → typed_items t ds ≡ done vs → ReadItems t ds vs
    items_are t no_items vs e = subst (ReadItems t no_items) (ok_is [] vs e) (says.empty_array t)
    items_are t (item d ds) vs e =
        let a = bind_ok (typed_value t d) (λ v. typed_items t ds >>= λ ws. Ok (v ∷ ws)) vs e in
        let b = bind_ok (typed_items t ds) (λ ws. Ok (a.0 ∷ ws)) vs a.2 in
        subst (ReadItems t (item d ds)) (ok_is (a.0 ∷ b.0) vs b.2) (says.next_item t d ds a.0 b.0 (value_is t d a.0 a.1) (items_are t ds b.0 b.1))

    pub members_are : (fs : CedarFields) (ms : Members) (vs : List Field) → typed_members fs ms ≡ done vs → ReadMembers fs ms vs
    members_are fs no_members vs e = subst (ReadMembers fs no_members) (ok_is [] vs e) (says.empty_object fs)
    members_are fs (member k d ms) vs e =
        let a = bind_ok (or_fault Undeclared (declared_at k fs)) (λ t. typed_value t d >>= λ v. typed_members fs ms >>= λ ws. Ok ((k, v) ∷ ws)) vs e in
        let b = bind_ok (typed_value a.0 d) (λ v. typed_members fs ms >>= λ ws. Ok ((k, v) ∷ ws)) vs a.2 in
        let c = bind_ok (typed_members fs ms) (λ ws. Ok ((k, b.0) ∷ ws)) vs b.2 in
        subst (ReadMembers fs (member k d ms)) (ok_is ((k, b.0) ∷ c.0) vs c.2)
        (says.next_member fs k d ms a.0 b.0 c.0 (declared_is fs k a.0 (some_of Undeclared (declared_at k fs) a.0 a.1)) (value_is a.0 d b.0 b.1) (members_are fs ms c.0 c.1))

-- ---- one step of reading

boolean_step : (b : Bool) → typed_value type.boolean (json.boolean b) ≡ done (value.boolean b)
unfolding typed_value boolean_in
boolean_step b = refl

text_step : (s : List ℕ) → typed_value type.text (json.string s) ≡ done (value.text s)
unfolding typed_value text_in
text_step s = refl

set_step : (t : Cedar) (ds : Items) (vs ws : List PlainValue) → typed_items t ds ≡ done vs → ws ≡ set_list vs
    → typed_value (type.set t) (json.array ds) ≡ done (value.set (values_of ws))
unfolding typed_value
set_step t ds vs ws read same = rw read (ap (λ (l : List PlainValue). done (value.set (values_of l))) (sym same))

record_step : (fs : CedarFields) (ms : Members) (vs : List Field) → typed_members fs ms ≡ done vs → all_there fs (json.object ms) ≡ true
    → typed_value (type.record_of fs) (json.object ms) ≡ done (value.record_of (fields_of vs))
unfolding typed_value
record_step fs ms vs read there = rw (read, there) refl

none_step : (t : Cedar) → typed_items t no_items ≡ done []
unfolding typed_value
none_step t = refl

item_step : (t : Cedar) (d : Data) (ds : Items) (v : PlainValue) (vs : List PlainValue) → typed_value t d ≡ done v → typed_items t ds ≡ done vs → typed_items t (item d ds) ≡ done (v ∷ vs)
unfolding typed_value
item_step t d ds v vs one more = rw (one, more) refl

empty_step : (fs : CedarFields) → typed_members fs no_members ≡ done []
unfolding typed_value
empty_step fs = refl

pub member_step : (fs : CedarFields) (k : List ℕ) (d : Data) (ms : Members) (t : Cedar) (v : PlainValue) (vs : List Field) → declared_at k fs ≡ Some t → typed_value t d ≡ done v
    → typed_members fs ms ≡ done vs → typed_members fs (member k d ms) ≡ done ((k, v) ∷ vs)
unfolding typed_value
member_step fs k d ms t v vs here one more = rw (here, one, more) refl

module _ (names : Names) where
  mutual
    pub is_value : (t : Cedar) (d : Data) (v : PlainValue) → Reads t d v → typed_value t d ≡ done v
    is_value t d v (says.boolean b) = boolean_step b
    is_value t d v (says.long n z is fits) = is_long_value n z is fits
    is_value t d v (says.text s) = text_step s
    is_value t d v (says.set x ds stated kept h is) = set_step x ds stated kept (are_items x ds stated h) (set_of_is stated kept is)
    is_value t d v (says.record_of fs ms stated h there) = record_step fs ms stated (are_members fs ms stated h) (is_required fs ms there)
    is_value t d v (says.entity name e uid is same) = is_entity_value names name e uid is same
    is_value t d v (says.decimal e argument z is text) = is_decimal_value e argument z is text
    is_value t d v (says.ipaddr e argument n is text) = is_ipaddr_value e argument n is text

    pub are_items : (t : Cedar) (ds : Items) (vs : List PlainValue) → ReadItems t ds vs → typed_items t ds ≡ done vs
    are_items t ds vs (says.empty_array x) = none_step x
    are_items t ds vs (says.next_item x d es v ws h rest) = item_step x d es v ws (is_value x d v h) (are_items x es ws rest)

    pub are_members : (fs : CedarFields) (ms : Members) (vs : List Field) → ReadMembers fs ms vs → typed_members fs ms ≡ done vs
    are_members fs ms vs (says.empty_object gs) = empty_step gs
    are_members fs ms vs (says.next_member gs k d ns t v ws here h rest) =
        member_step gs k d ns t v ws (is_declared gs k t here) (is_value t d v h) (are_members gs ns ws rest)
