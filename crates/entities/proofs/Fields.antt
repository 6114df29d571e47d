-- What a record type declares and requires, and which keys an object has: tests of the reading function, as relations.
use Rattle.std.proofs.Common.{◌≡◌, ◌∙◌, ℕ, List, Bool, true, false, cond, Option, Some, refl, sym, ap, subst}
use Rattle.std.proofs.Common.{Ordering, Less, Equal, Greater}
use Rattle.std.specs.Prelude.{◌&&◌, ◌||◌, not, is_some}
use Rattle.std.specs.Str.{bytes_eq}
use Rattle.std.specs.Ordering.{nat_cmp, match_ordering, is_eq}
use Rattle.std.specs.Cmp.Lexicographic.{slice_cmp}
use Rattle.std.proofs.lemmas.Map.Text.{is_eq-slice_cmp}
use Rattle.serde_json.specs.Data.{Data, Members, no_members, member}
use Rattle.serde_json.specs.Data as json
use Rattle.serde_json.specs.Find.{get_member}
use Rattle.schema_types.specs.Cedar as type
use Rattle.schema_types.specs.Cedar.{Cedar, CedarFields}
use Rattle.entities.specs.Parts.{declared_at}
use Rattle.entities.specs.Typing.{all_there}
use Rattle.entities.specs.StatedValues.{Declares, Requires, HasKey, HasRequired, LacksRequired}
use Rattle.entities.specs.StatedValues as stated
use Rattle.entities.proofs.ReadingSteps.{some_is, true_false, same_bytes, bytes_same, untrue}

-- ---- declared types

differs : (l k : List ℕ) → bytes_eq l k ≡ false → l ≡ k → ⊥
differs l k apart same = true_false (bytes_eq l k) (same_bytes l k same) apart

declared_by : (l : List ℕ) (u : Cedar) (r : Bool) (fs : CedarFields) (k : List ℕ) (t : Cedar) → ((declared_at k fs ≡ Some t) → Declares fs k t)
    → (b : Bool) → bytes_eq l k ≡ b → cond b (Some u) (declared_at k fs) ≡ Some t → Declares (type.field l u r fs) k t
declared_by l u r fs k t rest true same e =
    subst (λ (x : List ℕ). Declares (type.field l u r fs) x t) (bytes_same l k same)
    (subst (λ (x : Cedar). Declares (type.field l u r fs) l x) (some_is u t e) (stated.first_declared l u r fs))
declared_by l u r fs k t rest false other e = stated.later_declared l u r fs k t (differs l k other) (rest e)

pub declared_is : (fs : CedarFields) (k : List ℕ) (t : Cedar) → declared_at k fs ≡ Some t → Declares fs k t
declared_is type.no_fields k t e = absurd cc
declared_is (type.field l u r fs) k t e = declared_by l u r fs k t (declared_is fs k t) (bytes_eq l k) refl e

unequal : (l k : List ℕ) → (l ≡ k → ⊥) → (b : Bool) → bytes_eq l k ≡ b → b ≡ false
unequal l k apart true e = absurd (apart (bytes_same l k e))
unequal l k apart false e = refl

pub is_declared : (fs : CedarFields) (k : List ℕ) (t : Cedar) → Declares fs k t → declared_at k fs ≡ Some t
is_declared fs k t (stated.first_declared key u required more) = rw (same_bytes key key refl) refl
is_declared fs k t (stated.later_declared other u required more key v apart rest) =
    ap (λ (b : Bool). cond b (Some u) (declared_at key more)) (unequal other key apart (bytes_eq other key) refl) ∙ is_declared more key v rest

-- ---- keys of an object

equal_of : (o : Ordering) → is_eq o ≡ true → o ≡ Equal
equal_of Less h = absurd cc
equal_of Equal h = refl
equal_of Greater h = absurd cc

same_key : (k l : List ℕ) (o : Ordering) → slice_cmp nat_cmp k l ≡ o → is_eq o ≡ true → l ≡ k
same_key k l o e h = sym (bytes_same k l (sym (is_eq-slice_cmp k l) ∙ ap is_eq e ∙ h))

key_by : (k l : List ℕ) (d : Data) (ms : Members) → (is_some (get_member k ms) ≡ true → HasKey ms k) → (o : Ordering) → slice_cmp nat_cmp k l ≡ o
    → is_some (match_ordering o (get_member k ms) (Some d) (get_member k ms)) ≡ true → HasKey (member l d ms) k
key_by k l d ms rest Less c e = stated.later_key l d ms k (rest e)
key_by k l d ms rest Equal c e = subst (λ (x : List ℕ). HasKey (member l d ms) x) (same_key k l Equal c refl) (stated.first_key l d ms)
key_by k l d ms rest Greater c e = stated.later_key l d ms k (rest e)

pub key_is : (ms : Members) (k : List ℕ) → is_some (get_member k ms) ≡ true → HasKey ms k
key_is no_members k e = absurd cc
key_is (member l d ms) k e = key_by k l d ms (key_is ms k) (slice_cmp nat_cmp k l) refl e

compared_equal : (k : List ℕ) → slice_cmp nat_cmp k k ≡ Equal
compared_equal k = equal_of (slice_cmp nat_cmp k k) (is_eq-slice_cmp k k ∙ same_bytes k k refl)

still : (o : Ordering) (d : Data) (x : Option Data) → is_some x ≡ true → is_some (match_ordering o x (Some d) x) ≡ true
still Less d x h = h
still Equal d x h = refl
still Greater d x h = h

pub is_key : (ms : Members) (k : List ℕ) → HasKey ms k → is_some (get_member k ms) ≡ true
is_key ms k (stated.first_key key d more) = rw (compared_equal key) refl
is_key ms k (stated.later_key other d more key rest) = still (slice_cmp nat_cmp key other) d (get_member key more) (is_key more key rest)

-- ---- required keys

pub both_true : (a b : Bool) → (a && b) ≡ true → (a ≡ true) × (b ≡ true)
both_true true b e = (refl, e)
both_true false b e = absurd cc

there_if : (r b : Bool) → (not r || b) ≡ true → r ≡ true → b ≡ true
there_if true b e h = e
there_if false b e h = absurd cc

pub required_is : (fs : CedarFields) (ms : Members) → all_there fs (json.object ms) ≡ true → HasRequired fs ms
required_is fs ms e k (stated.first_required key t more) =
    let both = both_true (is_some (get_member key ms)) (all_there more (json.object ms)) e in
    key_is ms key both.0
required_is fs ms e k (stated.later_required other u r more key rest) =
    let both = both_true (not r || is_some (get_member other ms)) (all_there more (json.object ms)) e in
    required_is more ms both.1 key rest

pub joined : (a b : Bool) → a ≡ true → b ≡ true → (a && b) ≡ true
joined true b h g = g
joined false b h g = absurd cc

one_there : (r b : Bool) → (r ≡ true → b ≡ true) → (not r || b) ≡ true
one_there true b f = f refl
one_there false b f = refl

first_there : (k : List ℕ) (t : Cedar) (r : Bool) (fs : CedarFields) (ms : Members) → HasRequired (type.field k t r fs) ms → r ≡ true → is_some (get_member k ms) ≡ true
first_there k t r fs ms all h =
    is_key ms k (all k (subst (λ (b : Bool). Requires (type.field k t b fs) k) (sym h) (stated.first_required k t fs)))

pub is_required : (fs : CedarFields) (ms : Members) → HasRequired fs ms → all_there fs (json.object ms) ≡ true
is_required type.no_fields ms all = refl
is_required (type.field k t r fs) ms all =
    joined (not r || is_some (get_member k ms)) (all_there fs (json.object ms))
    (one_there r (is_some (get_member k ms)) (first_there k t r fs ms all))
    (is_required fs ms (λ key h. all key (stated.later_required k t r fs key h)))

-- ---- a required key that is not there

first_lacks : (k : List ℕ) (t : Cedar) (r : Bool) (fs : CedarFields) (ms : Members) → is_some (get_member k ms) ≡ false → r ≡ true → LacksRequired (type.field k t r fs) ms
first_lacks k t r fs ms none needed = (
  k,
  subst (λ (b : Bool). Requires (type.field k t b fs) k) (sym needed) (stated.first_required k t fs),
  λ h. true_false (is_some (get_member k ms)) (is_key ms k h) none,
)

later_lacks : (k : List ℕ) (t : Cedar) (r : Bool) (fs : CedarFields) (ms : Members) → LacksRequired fs ms → LacksRequired (type.field k t r fs) ms
later_lacks k t r fs ms more = (more.0, stated.later_required k t r fs more.0 more.1, more.2)

lacks_by : (r b all : Bool) (A : Type 0) → (b ≡ false → r ≡ true → A) → (all ≡ false → A) → ((not r || b) && all) ≡ false → A
lacks_by true true all A first later e = later e
lacks_by true false all A first later e = first refl refl
lacks_by false b all A first later e = later e

pub lacks : (fs : CedarFields) (ms : Members) → all_there fs (json.object ms) ≡ false → LacksRequired fs ms
lacks type.no_fields ms e = absurd cc
lacks (type.field k t r fs) ms e =
    lacks_by r (is_some (get_member k ms)) (all_there fs (json.object ms)) (LacksRequired (type.field k t r fs) ms)
    (first_lacks k t r fs ms) (λ apart. later_lacks k t r fs ms (lacks fs ms apart)) e

pub is_lacking : (fs : CedarFields) (ms : Members) → LacksRequired fs ms → all_there fs (json.object ms) ≡ false
is_lacking fs ms l = untrue (all_there fs (json.object ms)) (λ all. l.2 (required_is fs ms all l.0 l.1))
