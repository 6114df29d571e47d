-- Which keys an object has: the tests of the reading functions, as relations.
use Rattle.std.proofs.Common.{◌≡◌, ◌∙◌, ℕ, zero, suc, List, [], ◌∷◌, Bool, true, false, refl, sym, ap, subst, inl, inr, arith}
use Rattle.std.specs.Prelude.{◌⊎◌, ◌&&◌, ◌||◌, Contains}
use Rattle.std.specs.List.{list_any}
use Rattle.std.specs.Str.{bytes_eq}
use Rattle.serde_json.specs.Data.{Data, Members, no_members, member}
use Rattle.serde_json.specs.Data as json
use Rattle.json_words.specs.Keys.{keys_within, has_only}
use Rattle.json_words.specs.Ascending.{member_keys}
use Rattle.schema.specs.ObjectKeys.{HasOnly, HasOther}
use Rattle.schema.specs.ObjectKeys as says
use Rattle.schema.proofs.Steps.{same_bytes, bytes_same, true_false, untrue}

-- ---- lists

pub at_head : (x : List ℕ) (xs : List (List ℕ)) → Contains (x ∷ xs) x
at_head x xs = (zero, omega arith, refl)

pub in_tail : (x y : List ℕ) (xs : List (List ℕ)) → Contains xs y → Contains (x ∷ xs) y
in_tail x y xs (k, lt, e) = (suc k, omega arith, e)

pub nowhere : (y : List ℕ) → Contains [] y → ⊥
nowhere y (k, lt, e) = omega arith

pub not_there : (x y : List ℕ) (xs : List (List ℕ)) → (y ≡ x → ⊥) → (Contains xs y → ⊥) → Contains (x ∷ xs) y → ⊥
not_there x y xs other none (zero, lt, e) = other (sym e)
not_there x y xs other none (suc k, lt, e) = none (k, omega arith, e)

pub either : (a b : Bool) → (a || b) ≡ true → (a ≡ true) ⊎ (b ≡ true)
either true b e = inl refl
either false b e = inr e

pub or_left : (a b : Bool) → a ≡ true → (a || b) ≡ true
or_left true b e = refl
or_left false b e = absurd cc

pub or_right : (a b : Bool) → b ≡ true → (a || b) ≡ true
or_right true b e = refl
or_right false b e = e

pub any_in : (key : List ℕ) (xs : List (List ℕ)) → list_any (λ a. bytes_eq a key) xs ≡ true → Contains xs key
any_in key [] e = absurd cc
any_in key (x ∷ xs) e = elim (either (bytes_eq x key) (list_any (λ a. bytes_eq a key) xs) e) [
  | inl y ↦ subst (λ (z : List ℕ). Contains (x ∷ xs) z) (bytes_same x key y) (at_head x xs)
  | inr n ↦ in_tail x key xs (any_in key xs n)
]

pub in_any : (key : List ℕ) (xs : List (List ℕ)) → Contains xs key → list_any (λ a. bytes_eq a key) xs ≡ true
in_any key [] h = absurd (nowhere key h)
in_any key (x ∷ xs) (zero, lt, e) = or_left (bytes_eq x key) (list_any (λ a. bytes_eq a key) xs) (same_bytes x key e)
in_any key (x ∷ xs) (suc k, lt, e) = or_right (bytes_eq x key) (list_any (λ a. bytes_eq a key) xs) (in_any key xs (k, omega arith, e))

-- ---- the keys of an object

pub both_true : (a b : Bool) → (a && b) ≡ true → (a ≡ true) × (b ≡ true)
both_true true b e = (refl, e)
both_true false b e = absurd cc

pub joined : (a b : Bool) → a ≡ true → b ≡ true → (a && b) ≡ true
joined true b h g = g
joined false b h g = absurd cc

abbrev Known : List (List ℕ) → Members → Type 0
Known keys ms = (key : List ℕ) → Contains (member_keys ms) key → Contains keys key

known_by : (keys : List (List ℕ)) (key k : List ℕ) (d : Data) (ms : Members) → Contains keys k → Known keys ms → Contains (k ∷ member_keys ms) key → Contains keys key
known_by keys key k d ms here more (zero, lt, e) = subst (λ (z : List ℕ). Contains keys z) e here
known_by keys key k d ms here more (suc i, lt, e) = more key (i, omega arith, e)

within_is : (keys : List (List ℕ)) (ms : Members) → keys_within keys ms ≡ true → Known keys ms
within_is keys no_members e key h = absurd (nowhere key h)
within_is keys (member k d ms) e key h =
    let both = both_true (list_any (λ a. bytes_eq a k) keys) (keys_within keys ms) e in
    known_by keys key k d ms (any_in k keys both.0) (within_is keys ms both.1) h

is_within : (keys : List (List ℕ)) (ms : Members) → Known keys ms → keys_within keys ms ≡ true
is_within keys no_members known = refl
is_within keys (member k d ms) known =
    joined (list_any (λ a. bytes_eq a k) keys) (keys_within keys ms)
    (in_any k keys (known k (at_head k (member_keys ms))))
    (is_within keys ms (λ key h. known key (in_tail k key (member_keys ms) h)))

abbrev Stranger : List (List ℕ) → Members → Type 0
Stranger keys ms = (key : List ℕ) × Contains (member_keys ms) key × (Contains keys key → ⊥)

stranger_by : (keys : List (List ℕ)) (k : List ℕ) (d : Data) (ms : Members) → (keys_within keys ms ≡ false → Stranger keys ms)
    → (b : Bool) → list_any (λ a. bytes_eq a k) keys ≡ b → (b && keys_within keys ms) ≡ false → Stranger keys (member k d ms)
stranger_by keys k d ms rest true is e = let r = rest e in (r.0, in_tail k r.0 (member_keys ms) r.1, r.2)
stranger_by keys k d ms rest false is e = (k, at_head k (member_keys ms), λ h. true_false (list_any (λ a. bytes_eq a k) keys) (in_any k keys h) is)

stranger : (keys : List (List ℕ)) (ms : Members) → keys_within keys ms ≡ false → Stranger keys ms
stranger keys no_members e = absurd cc
stranger keys (member k d ms) e = stranger_by keys k d ms (stranger keys ms) (list_any (λ a. bytes_eq a k) keys) refl e

-- ---- only these keys, or another

pub is_only : (keys : List (List ℕ)) (d : Data) → HasOnly keys d → has_only keys d ≡ true
is_only keys d h = ap (has_only keys) h.is_object ∙ is_within keys h.members h.known

members_known : (keys : List (List ℕ)) (ms : Members) (b : Bool) → keys_within keys ms ≡ b → HasOnly keys (json.object ms) ⊎ HasOther keys (json.object ms)
members_known keys ms true e = inl (record { members = ms; is_object = refl; known = within_is keys ms e })
members_known keys ms false e = let s = stranger keys ms e in inr (says.unknown_key ms s.0 refl s.1 s.2)

pub keys_known : (keys : List (List ℕ)) (d : Data) → HasOnly keys d ⊎ HasOther keys d
keys_known keys json.null = inr (says.no_object (λ ms e. absurd cc))
keys_known keys (json.boolean b) = inr (says.no_object (λ ms e. absurd cc))
keys_known keys (json.number n) = inr (says.no_object (λ ms e. absurd cc))
keys_known keys (json.string s) = inr (says.no_object (λ ms e. absurd cc))
keys_known keys (json.array ds) = inr (says.no_object (λ ms e. absurd cc))
keys_known keys (json.object ms) = members_known keys ms (keys_within keys ms) refl

other_members : (keys : List (List ℕ)) (ms : Members) (key : List ℕ) → Contains (member_keys ms) key → (Contains keys key → ⊥) → keys_within keys ms ≡ false
other_members keys ms key stands unknown = untrue (keys_within keys ms) (λ e. unknown (within_is keys ms e key stands))

no_object_by : (keys : List (List ℕ)) (d : Data) → ((ms : Members) → d ≡ json.object ms → ⊥) → has_only keys d ≡ false
no_object_by keys json.null none = refl
no_object_by keys (json.boolean b) none = refl
no_object_by keys (json.number n) none = refl
no_object_by keys (json.string s) none = refl
no_object_by keys (json.array ds) none = refl
no_object_by keys (json.object ms) none = absurd (none ms refl)

pub is_other : (keys : List (List ℕ)) (d : Data) → HasOther keys d → has_only keys d ≡ false
is_other keys d (says.no_object none) = no_object_by keys d none
is_other keys d (says.unknown_key ms key is stands unknown) = ap (has_only keys) is ∙ other_members keys ms key stands unknown
