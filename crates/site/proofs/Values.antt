-- A value that JSON is read as by a type is of that type.
use Rattle.std.proofs.Common.{◌≡◌, ◌∙◌, ℕ, List, [], ◌∷◌, Bool, true, false, not, cond, Option, Some, None, Result, Ok}
use Rattle.std.proofs.Common.{Err, Less, Equal, Greater, refl, sym, ap, subst, inl, inr}
use Rattle.std.specs.Prelude.{Contains, is_some, codes, ⊤, ◌&&◌, ◌||◌}
use Rattle.std.specs.Str.{bytes_eq}
use Rattle.std.specs.Ordering.{match_ordering}
use Rattle.std.proofs.lemmas.Slice.Eq.{bytes_eq-Decides}
use Rattle.site_meaning.specs.ancestor_search.Deciding.{Contains-here, Contains-there, Contains-none, Contains-cases}
use Rattle.serde_json.specs.Data.{Data, Items, no_items, item, Members, no_members, member}
use Rattle.serde_json.specs.Data as json
use Rattle.serde_json.specs.Find.{as_bool, as_number, as_i64, as_str, get_member}
use Rattle.json_words.specs.ReadsAs.{◌>>=◌, or_fault, demand}
use Rattle.values.specs.Values.{PlainValue, boolean, long, text, entity, decimal, ipaddr, set, record_of, values_of}
use Rattle.values.specs.Values.{fields_of, pairs_of-fields_of}
use Rattle.values.specs.Fields.{Field, find_field}
use Rattle.values.specs.Uids.{text_cmp, text_cmp-IsAntisymmetric}
use Rattle.values.specs.Sets.{set_list}
use Rattle.values.specs.Laws.{SetsHoldTheirMembers}
use Rattle.entities.specs.declared.fault.EntityFault.{EntityFault}
use Rattle.entities.specs.declared.fault.EntityFault.TheVariants.{WrongType, Undeclared}
use Rattle.site_meaning.specs.schema_types.Cedar as cedar
use Rattle.site_meaning.specs.schema_types.Cedar.{Cedar, CedarFields, no_fields, field}
use Rattle.entities.specs.Parts.{element_of, fields_in, declared_at}
use Rattle.entity_uids.specs.Uids.{uid_in}
use Rattle.values.specs.extensions.TextsDecided.{decimal_of, network_of}
use Rattle.entities.specs.Typing.{argument_in, boolean_in, is_long, long_of, long_in, text_in}
use Rattle.entities.specs.Typing.{entity_in, decimal_in, ipaddr_in, leaf, all_there, with_or, inside}
use Rattle.entities.specs.Typing.{typed_value, typed_items, typed_members}
use Rattle.sync_messages.specs.typing.Types as static_type
use Rattle.sync_messages.specs.typing.Types.{StaticType, Declared, declared_as, boolean_type, long_type, text_type}
use Rattle.sync_messages.specs.typing.Types.{entity_type, set_type, record_type, decimal_type, ipaddr_type, undeclared}
use Rattle.sync_messages.specs.typing.Membership.{Of, of_boolean, of_long, of_text, of_entity, of_set, of_record}
use Rattle.sync_messages.specs.typing.Membership.{of_decimal, of_ipaddr, EachOf, each_none, each_more, FieldOf, absent}
use Rattle.sync_messages.specs.typing.Membership.{left_out, has_optional, has_required}
use Rattle.sync_messages.specs.type_checker.FromSchemas.{static, static_fields}

-- one step of reading, and the next
pub bound : {A B F : Type 0} (r : Result A F) (f : A → Result B F) (y : B) → (r >>= f) ≡ Ok y → (x : A) × (r ≡ Ok x) × (f x ≡ Ok y)
bound (Ok x) f y h = (x, refl, h)
bound (Err e) f y h = absurd cc

abbrev done : {A F : Type 0} → A → Result A F
done x = Ok x

pub is_it : {A F : Type 0} (x y : A) → done {F = F} x ≡ done y → x ≡ y
is_it x y h = cc

pub some_of : {A F : Type 0} (f : F) (o : Option A) (x : A) → or_fault f o ≡ Ok x → o ≡ Some x
some_of f (Some y) x h = cc
some_of f None x h = absurd cc

pub demanded : {F : Type 0} (f : F) (b : Bool) (x : ⊤) → demand f b ≡ Ok x → b ≡ true
demanded f true x h = refl
demanded f false x h = absurd cc

pub same_bytes : (xs ys : List ℕ) → bytes_eq xs ys ≡ true → xs ≡ ys
same_bytes xs ys h = (bytes_eq-Decides xs ys).0 h

leaf_of : (t : Cedar) (d : Data) (v : PlainValue) → leaf t d ≡ Ok v → Of v (static t)
unfolding boolean_in long_in text_in entity_in decimal_in ipaddr_in
leaf_of cedar.boolean d v e =
    let a = bound (or_fault WrongType (as_bool d)) (λ b. Ok (boolean b)) v e in subst (λ (w : PlainValue). Of w boolean_type) (is_it (boolean a.0) v a.2) of_boolean
leaf_of cedar.long d v e =
    let a = bound (or_fault WrongType (as_number d)) (λ n. or_fault WrongType (as_i64 n) >>= λ z. long_of z) v e in
    let b = bound (or_fault WrongType (as_i64 a.0)) (λ z. long_of z) v a.2 in
    let c = bound (demand WrongType (is_long b.0)) (λ u. Ok (long b.0)) v b.2 in subst (λ (w : PlainValue). Of w long_type) (is_it (long b.0) v c.2) of_long
leaf_of cedar.text d v e =
    let a = bound (or_fault WrongType (as_str d)) (λ s. Ok (text s)) v e in subst (λ (w : PlainValue). Of w text_type) (is_it (text a.0) v a.2) of_text
leaf_of (cedar.entity name) d v e =
    let a = bound (or_fault WrongType (uid_in d)) (λ u. demand WrongType (bytes_eq u.type_name name) >>= λ q. Ok (entity u)) v e in
    let b = bound (demand WrongType (bytes_eq a.0.type_name name)) (λ q. Ok (entity a.0)) v a.2 in
    let named : a.0.type_name ≡ name = same_bytes a.0.type_name name (demanded WrongType (bytes_eq a.0.type_name name) b.0 b.1) in
    subst (λ (w : PlainValue). Of w (entity_type name)) (is_it (entity a.0) v b.2) (of_entity named)
leaf_of (cedar.set t) d v e = absurd cc
leaf_of (cedar.record_of fs) d v e = absurd cc
leaf_of cedar.decimal d v e =
    let a = bound (argument_in (codes "decimal") d) (λ s. or_fault WrongType (decimal_of s) >>= λ z. Ok (decimal z)) v e in
    let b = bound (or_fault WrongType (decimal_of a.0)) (λ z. Ok (decimal z)) v a.2 in subst (λ (w : PlainValue). Of w decimal_type) (is_it (decimal b.0) v b.2) of_decimal
leaf_of cedar.ipaddr d v e =
    let a = bound (argument_in (codes "ip") d) (λ s. or_fault WrongType (network_of s) >>= λ n. Ok (ipaddr n)) v e in
    let b = bound (or_fault WrongType (network_of a.0)) (λ n. Ok (ipaddr n)) v a.2 in subst (λ (w : PlainValue). Of w ipaddr_type) (is_it (ipaddr b.0) v b.2) of_ipaddr

-- ---- sets

each_of : (t : StaticType) (vs : List PlainValue) → ((v : PlainValue) → Contains vs v → Of v t) → EachOf (values_of vs) t
each_of t [] h = each_none
each_of t (v ∷ vs) h = each_more (h v (Contains-here v vs)) (each_of t vs (λ w c. h w (Contains-there v vs w c)))

element_static : (t x : Cedar) → element_of t ≡ Some x → static t ≡ set_type (static x)
element_static cedar.boolean x e = absurd cc
element_static cedar.long x e = absurd cc
element_static cedar.text x e = absurd cc
element_static (cedar.entity name) x e = absurd cc
element_static (cedar.set u) x e = let same : u ≡ x = cc in ap (λ (s : Cedar). set_type (static s)) same
element_static (cedar.record_of fs) x e = absurd cc
element_static cedar.decimal x e = absurd cc
element_static cedar.ipaddr x e = absurd cc

set_is_of : SetsHoldTheirMembers → (t x : Cedar) (vs : List PlainValue) → element_of t ≡ Some x → ((v : PlainValue) → Contains vs v → Of v (static x))
    → Of (set (values_of (set_list vs))) (static t)
set_is_of made t x vs e h =
    subst (λ (s : StaticType). Of (set (values_of (set_list vs))) s) (sym (element_static t x e))
    (of_set (each_of (static x) (set_list vs) (λ v c. h v (((made vs).members v).0 c))))

-- ---- records

-- the first field is found by its key
find_same : (k l : List ℕ) (v : PlainValue) (fs : List Field) → text_cmp k l ≡ Equal → find_field k ((l, v) ∷ fs) ≡ Some v
find_same k l v fs h = rw h refl

abbrev Listed : List Field → List ℕ → PlainValue → Type 0
Listed vs k v = Contains vs (k, v)

found_at : (k : List ℕ) (f : Field) (fs : List Field) (v : PlainValue) → ((w : PlainValue) → find_field k fs ≡ Some w → Listed fs k w) → find_field k (f ∷ fs) ≡ Some v → Listed (f ∷ fs) k v
found_at k f fs v more h = elim (text_cmp k f.0) as (λ o. (o ≡ text_cmp k f.0) → match_ordering o (find_field k fs) (Some f.1) (find_field k fs) ≡ Some v → Listed (f ∷ fs) k v) [
  | Less ↦ λ at e. Contains-there f fs (k, v) (more v e)
  | Equal ↦ λ at e.
      let key : k ≡ f.0 = text_cmp-IsAntisymmetric k f.0 (sym at) in
      let same : f.1 ≡ v = cc in
      subst (λ (g : Field). Contains (f ∷ fs) g) (ap (λ (l : List ℕ). (l, f.1)) (sym key) ∙ ap (λ (w : PlainValue). (k, w)) same) (Contains-here f fs)
  | Greater ↦ λ at e. Contains-there f fs (k, v) (more v e)
] refl h

pub found_is_listed : (k : List ℕ) (fs : List Field) (v : PlainValue) → find_field k fs ≡ Some v → Listed fs k v
found_is_listed k [] v h = absurd cc
found_is_listed k (f ∷ fs) v h = found_at k f fs v (λ w e. found_is_listed k fs w e) h

-- ---- what is declared, as the rules of typing have it

same_test : (k l : List ℕ) → bytes_eq k l ≡ bytes_eq l k
same_test k l = by_test (bytes_eq k l) (bytes_eq l k) (λ h. (bytes_eq-Decides l k).1 (sym (same_bytes k l h))) (λ h. (bytes_eq-Decides k l).1 (sym (same_bytes l k h)))
  where
    by_test : (b c : Bool) → (b ≡ true → c ≡ true) → (c ≡ true → b ≡ true) → b ≡ c
    by_test true c f g = sym (f refl)
    by_test false true f g = g refl
    by_test false false f g = refl

-- a declared field, and whether it is required
abbrev pub IsDeclared : List ℕ → CedarFields → Cedar → Type 0
IsDeclared k fs t = (r : Bool) × (static_type.field_declared_at k (static_fields fs) ≡ declared_as r (static t))

declared_here : (k l : List ℕ) (u : Cedar) (r : Bool) (fs : CedarFields) (t : Cedar) → (declared_at k fs ≡ Some t → IsDeclared k fs t)
    → (b : Bool) → b ≡ bytes_eq l k → cond b (Some u) (declared_at k fs) ≡ Some t → IsDeclared k (field l u r fs) t
declared_here k l u r fs t more true at e =
    let same : u ≡ t = cc in
    (r, rw (same_test k l, ← at) (ap (λ (s : Cedar). declared_as r (static s)) same))
declared_here k l u r fs t more false at e =
    let m = more e in (m.0, rw (same_test k l, ← at) m.1)

pub is_declared : (k : List ℕ) (fs : CedarFields) (t : Cedar) → declared_at k fs ≡ Some t → IsDeclared k fs t
is_declared k no_fields t e = absurd cc
is_declared k (field l u r fs) t e = declared_here k l u r fs t (is_declared k fs t) (bytes_eq l k) refl e

-- ---- a required field is there

-- the object has a member with this key
abbrev pub IsThere : List ℕ → Members → Type 0
IsThere k ms = is_some (get_member k ms) ≡ true

-- the required fields are members of the object
required_here : (k l : List ℕ) (u : Cedar) (r : Bool) (fs : CedarFields) (ms : Members) (t : StaticType) → (not r || is_some (get_member l ms)) ≡ true
    → (static_type.field_declared_at k (static_fields fs) ≡ static_type.required t → IsThere k ms)
    → (b : Bool) → b ≡ bytes_eq k l → cond b (declared_as r (static u)) (static_type.field_declared_at k (static_fields fs)) ≡ static_type.required t → IsThere k ms
required_here k l u true fs ms t there more true at e = subst (λ (m : List ℕ). IsThere m ms) (sym (same_bytes k l (sym at))) there
required_here k l u false fs ms t there more true at e = absurd cc
required_here k l u r fs ms t there more false at e = more e

pub both_true : (b c : Bool) → (b && c) ≡ true → (b ≡ true) × (c ≡ true)
both_true true c h = (refl, h)
both_true false c h = absurd cc

pub required_is_there : (fs : CedarFields) (ms : Members) → all_there fs (json.object ms) ≡ true → (k : List ℕ) (t : StaticType)
    → static_type.field_declared_at k (static_fields fs) ≡ static_type.required t → IsThere k ms
required_is_there no_fields ms there k t e = absurd cc
required_is_there (field l u r fs) ms there k t e =
    let two = both_true (not r || is_some (get_member l ms)) (all_there fs (json.object ms)) there in
    required_here k l u r fs ms t two.0 (required_is_there fs ms two.1 k t) (bytes_eq k l) refl e

-- ---- fields that are each of its declared type make a record of the type

abbrev pub AreOf : CedarFields → List Field → Type 0
AreOf fs vs = (k : List ℕ) (v : PlainValue) → Contains vs (k, v) → (t : Cedar) × (declared_at k fs ≡ Some t) × Of v (static t)

-- each member of the object is among the fields that were read
abbrev pub AreThere : Members → List Field → Type 0
AreThere ms vs = (k : List ℕ) → IsThere k ms → is_some (find_field k vs) ≡ true

of_declared : (v : PlainValue) (t : StaticType) (r : Bool) → Of v t → FieldOf (Some v) (declared_as r t)
of_declared v t true h = has_required h
of_declared v t false h = has_optional h

none_of : (fs : CedarFields) (ms : Members) (k : List ℕ) (vs : List Field) → all_there fs (json.object ms) ≡ true → AreThere ms vs → find_field k vs ≡ None
    → (d : Declared) → d ≡ static_type.field_declared_at k (static_fields fs) → FieldOf None d
none_of fs ms k vs all there none undeclared at = absent
none_of fs ms k vs all there none (static_type.optional t) at = left_out
none_of fs ms k vs all there none (static_type.required t) at =
    let found : is_some (find_field k vs) ≡ true = there k (required_is_there fs ms all k t (sym at)) in
    let missing : is_some (find_field k vs) ≡ false = ap (λ (o : Option PlainValue). is_some o) none in absurd cc

field_of : (fs : CedarFields) (ms : Members) (k : List ℕ) (vs : List Field) → all_there fs (json.object ms) ≡ true → AreThere ms vs → AreOf fs vs
    → (o : Option PlainValue) → o ≡ find_field k vs → FieldOf o (static_type.field_declared_at k (static_fields fs))
field_of fs ms k vs all there each None at = none_of fs ms k vs all there (sym at) (static_type.field_declared_at k (static_fields fs)) refl
field_of fs ms k vs all there each (Some v) at =
    let one = each k v (found_is_listed k vs v (sym at)) in
    let declared = is_declared k fs one.0 one.1 in
    subst (λ (d : Declared). FieldOf (Some v) d) (sym declared.1) (of_declared v (static one.0) declared.0 one.2)

pub record_is_of : (fs : CedarFields) (ms : Members) (vs : List Field) → all_there fs (json.object ms) ≡ true → AreThere ms vs → AreOf fs vs
    → Of (record_of (fields_of vs)) (record_type (static_fields fs))
record_is_of fs ms vs all there each = of_record (λ k.
    subst (λ (gs : List Field). FieldOf (find_field k gs) (static_type.field_declared_at k (static_fields fs))) (sym (pairs_of-fields_of vs))
    (field_of fs ms k vs all there each (find_field k vs) refl))

-- ---- values

fields_static : (t : Cedar) (gs : CedarFields) → fields_in t ≡ Some gs → static t ≡ record_type (static_fields gs)
fields_static cedar.boolean gs e = absurd cc
fields_static cedar.long gs e = absurd cc
fields_static cedar.text gs e = absurd cc
fields_static (cedar.entity name) gs e = absurd cc
fields_static (cedar.set u) gs e = absurd cc
fields_static (cedar.record_of fs) gs e = let same : fs ≡ gs = cc in ap (λ (s : CedarFields). record_type (static_fields s)) same
fields_static cedar.decimal gs e = absurd cc
fields_static cedar.ipaddr gs e = absurd cc

inside_of : {A : Type 0} (r : Result A EntityFault) (x : A) → inside r ≡ Ok x → r ≡ Ok x
inside_of (Ok y) x h = h
inside_of (Err f) x h = absurd cc

-- what was read of an object's members
pub record ReadOf (fs : CedarFields) (ms : Members) (vs : List Field) : Type 0 where
  pub each : AreOf fs vs
  pub there : AreThere ms vs

object_of : (t : Cedar) (o : Option CedarFields) (ms : Members) (v : PlainValue) → fields_in t ≡ o
    → ((fs : CedarFields) (vs : List Field) → typed_members fs ms ≡ Ok vs → ReadOf fs ms vs)
    → with_or o (λ fs. inside (typed_members fs ms) >>= λ vs. demand WrongType (all_there fs (json.object ms)) >>= λ there. Ok (record_of (fields_of vs))) (leaf t (json.object ms)) ≡ Ok v → Of v (static t)
object_of t None ms v is more e = leaf_of t (json.object ms) v e
object_of t (Some fs) ms v is more e =
    let b = bound (inside (typed_members fs ms)) (λ vs. demand WrongType (all_there fs (json.object ms)) >>= λ u. Ok (record_of (fields_of vs))) v e in
    let c = bound (demand WrongType (all_there fs (json.object ms))) (λ u. Ok (record_of (fields_of b.0))) v b.2 in
    let read = more fs b.0 (inside_of (typed_members fs ms) b.0 b.1) in
    let all : all_there fs (json.object ms) ≡ true = demanded WrongType (all_there fs (json.object ms)) c.0 c.1 in
    subst (λ (w : PlainValue). Of w (static t)) (is_it (record_of (fields_of b.0)) v c.2)
    (subst (λ (s : StaticType). Of (record_of (fields_of b.0)) s) (sym (fields_static t fs is)) (record_is_of fs ms b.0 all read.there read.each))

more_of : (fs : CedarFields) (l : List ℕ) (t : Cedar) (v : PlainValue) (vs : List Field) → declared_at l fs ≡ Some t → Of v (static t) → AreOf fs vs → AreOf fs ((l, v) ∷ vs)
more_of fs l t v vs declared of rest k w c = elim (Contains-cases (l, v) vs (k, w) c) [
  | inl e ↦
      let key : l ≡ k = ap (λ (f : Field). f.0) e in
      let val : v ≡ w = ap (λ (f : Field). f.1) e in
      (t, subst (λ (m : List ℕ). declared_at m fs ≡ Some t) key declared, subst (λ (x : PlainValue). Of x (static t)) val of)
  | inr later ↦ rest k w later
]

more_there : (l : List ℕ) (d : Data) (v : PlainValue) (ms : Members) (vs : List Field) → AreThere ms vs → AreThere (member l d ms) ((l, v) ∷ vs)
more_there l d v ms vs rest k h = elim (text_cmp k l) as (λ o. is_some (match_ordering o (get_member k ms) (Some d) (get_member k ms)) ≡ true → is_some (match_ordering o (find_field k vs) (Some v) (find_field k vs)) ≡ true) [
  | Less ↦ λ e. rest k e
  | Equal ↦ λ e. refl
  | Greater ↦ λ e. rest k e
] h

module _ (made : SetsHoldTheirMembers) where
  mutual
    unfolding typed_value

    pub value_of : (t : Cedar) (d : Data) (v : PlainValue) → typed_value t d ≡ Ok v → Of v (static t)
    value_of t json.null v e = leaf_of t json.null v e
    value_of t (json.boolean b) v e = leaf_of t (json.boolean b) v e
    value_of t (json.number n) v e = leaf_of t (json.number n) v e
    value_of t (json.string x) v e = leaf_of t (json.string x) v e
    value_of t (json.array ds) v e =
        let a = bound (or_fault WrongType (element_of t)) (λ x. typed_items x ds >>= λ vs. Ok (set (values_of (set_list vs)))) v e in
        let b = bound (typed_items a.0 ds) (λ vs. Ok (set (values_of (set_list vs)))) v a.2 in
        subst (λ (w : PlainValue). Of w (static t)) (is_it (set (values_of (set_list b.0))) v b.2) (set_is_of made t a.0 b.0 (some_of WrongType (element_of t) a.0 a.1) (items_of a.0 ds b.0 b.1))
    value_of t (json.object ms) v e = object_of t (fields_in t) ms v refl (λ fs vs r. members_of fs ms vs r) e

    items_of : (t : Cedar) (ds : Items) (vs : List PlainValue) → typed_items t ds ≡ Ok vs → (v : PlainValue) → Contains vs v → Of v (static t)
    items_of t no_items vs e v c = Contains-none v (subst (λ (l : List PlainValue). Contains l v) (sym (is_it [] vs e)) c)
    items_of t (item d ds) vs e v c =
        let a = bound (typed_value t d) (λ w. typed_items t ds >>= λ ws. Ok (w ∷ ws)) vs e in
        let b = bound (typed_items t ds) (λ ws. Ok (a.0 ∷ ws)) vs a.2 in
        elim (Contains-cases a.0 b.0 v (subst (λ (l : List PlainValue). Contains l v) (sym (is_it (a.0 ∷ b.0) vs b.2)) c)) [
          | inl same ↦ subst (λ (w : PlainValue). Of w (static t)) same (value_of t d a.0 a.1)
          | inr later ↦ items_of t ds b.0 b.1 v later
        ]

    pub members_of : (fs : CedarFields) (ms : Members) (vs : List Field) → typed_members fs ms ≡ Ok vs → ReadOf fs ms vs
    members_of fs no_members vs e =
        subst (λ (l : List Field). ReadOf fs no_members l) (is_it [] vs e) (record { each = λ k v c. Contains-none (k, v) c; there = λ k h. absurd cc })
    members_of fs (member l d ms) vs e =
        let a = bound (or_fault Undeclared (declared_at l fs)) (λ t. typed_value t d >>= λ v. typed_members fs ms >>= λ ws. Ok ((l, v) ∷ ws)) vs e in
        let b = bound (typed_value a.0 d) (λ v. typed_members fs ms >>= λ ws. Ok ((l, v) ∷ ws)) vs a.2 in
        let c = bound (typed_members fs ms) (λ ws. Ok ((l, b.0) ∷ ws)) vs b.2 in
        let rest = members_of fs ms c.0 c.1 in
        subst (λ (w : List Field). ReadOf fs (member l d ms) w) (is_it ((l, b.0) ∷ c.0) vs c.2) (record {
          each = more_of fs l a.0 b.0 c.0 (some_of Undeclared (declared_at l fs) a.0 a.1) (value_of a.0 d b.0 b.1) rest.each;
          there = more_there l d b.0 ms c.0 rest.there;
        })
