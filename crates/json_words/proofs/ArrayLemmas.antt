-- An array's members, taken from the front of the tokens one after another.
use Rattle.std.proofs.Common.{◌≡◌, ◌∙◌, ℕ, zero, suc, ◌-◌, ◌<◌, ◌≤◌, List, [], ◌∷◌, length, Bool, true, false, Option, Some, None, option_map, option_and_then, refl, sym, ap, arith}
use Rattle.std.specs.Str.{IsUtf8}
use Rattle.json.specs.Token.{Token}
use Rattle.json.specs.Json as json
use Rattle.json.specs.Json.{Parse, parse_map, after_end_array, value, items}
use Rattle.json.specs.Lex.{tokens}
use Rattle.json.proofs.Grammar.{Takes, items_end, items_fail, items_more, skip_value-shorter}
use Rattle.serde_json.specs.Data.{Num, Data, number, object, array, no_items, Items, Members}
use Rattle.serde_json.specs.Find.{as_array}
use Rattle.serde_json.specs.Read.{of_json, of_items, of_members, number_of, converted, max_depth}
use Rattle.serde_json.specs.Data.{no_members}
use Rattle.serde_json.specs.View.{view}
use Rattle.serde_json.specs.declared.value.Value.{Value}
use Rattle.json_words.specs.Each.{list_of}
use Rattle.json_words.proofs.JsonLemmas.{json_of-text, json_of-none}
use Rattle.json_words.specs.Arrays.{members_in, array_of, rest_of_array, array_at, whole}
use Rattle.json_words.specs.inner.Given.{value_at, is_array_start, is_object_start, scalar}
use Rattle.json_words.proofs.Whole.{read_is}
use Rattle.json_words.proofs.Turns.{at_array, at_object, scalar_at, nothing_given, array_after, array_with, array_starts, array_ends, array_goes_on, array_fails}

-- ---- a bound on the turns that is enough plays no part

module _ (p : Parse json.Json) (takes : Takes p) where
  turn : (n m : ℕ) (ts : List Token) (end : Option (List Token)) (o : Option (json.Json × List Token)) → length ts ≤ n → length ts ≤ m → after_end_array ts ≡ end → p ts ≡ o
      → ((r : List Token) → length r < length ts → items p (n - 1) r ≡ items p (m - 1) r) → items p n ts ≡ items p m ts
  turn n m ts (Some r) o ln lm ended is rest = items_end p n ts r ln ended ∙ sym (items_end p m ts r lm ended)
  turn n m ts None None ln lm ended is rest = items_fail p n ts ended is ∙ sym (items_fail p m ts ended is)
  turn n m ts None (Some (j, r)) ln lm ended is rest =
      let less : length r < length ts = takes ts r (ap (option_map (λ q. q.1)) is) in
      items_more p n ts r j (omega (arith, less)) ended is ∙ ap (parse_map (json.item j)) (rest r less) ∙ sym (items_more p m ts r j (omega (arith, less)) ended is)

  enough : (n m : ℕ) (ts : List Token) → length ts ≤ n → length ts ≤ m → items p n ts ≡ items p m ts
  enough zero m ts ln lm = turn zero m ts (after_end_array ts) (p ts) ln lm refl refl (λ r less. let never : ⊥ = omega (arith, less) in absurd never)
  enough (suc n) m ts ln lm =
      let back : suc n - 1 ≡ n = omega arith in
      turn (suc n) m ts (after_end_array ts) (p ts) ln lm refl refl
      (λ r less. ap (λ k. items p k r) back ∙ enough n (m - 1) r (omega (arith, less)) (omega (arith, less)))

-- ---- a text that begins with no array is none

abbrev no_array : Option (Data × List Token) → Type 0
no_array o = members_in (whole o) ≡ None

alone : (d : Data) (ts : List Token) → as_array d ≡ None → no_array (Some (d, ts))
alone d [] none = ap (option_map list_of) none
alone d (t ∷ ts) none = refl

alone_if : (x : Option Data) (ts : List Token) → option_and_then as_array x ≡ None → no_array (option_map (λ d. (d, ts)) x)
alone_if None ts none = refl
alone_if (Some d) ts none = alone d ts none

no_number : (x : Option Num) → option_and_then as_array (option_map number x) ≡ None
no_number None = refl
no_number (Some n) = refl

no_scalar : (t : Token) → option_and_then as_array (scalar t) ≡ None
no_scalar Token.begin_object = refl
no_scalar Token.end_object = refl
no_scalar Token.begin_array = refl
no_scalar Token.end_array = refl
no_scalar (Token.key s) = refl
no_scalar (Token.string s) = refl
no_scalar (Token.number s) = no_number (number_of s)
no_scalar (Token.boolean b) = refl
no_scalar Token.null = refl
no_scalar Token.bad = refl

no_members_of : (x : Option Members) (r : List Token) → no_array (option_map (λ d. (d, r)) (option_map object x))
no_members_of None r = refl
no_members_of (Some ms) [] = refl
no_members_of (Some ms) (t ∷ ts) = refl

no_object : (o : Option (json.Members × List Token)) → no_array (converted of_json (parse_map json.object o))
no_object None = refl
no_object (Some p) = no_members_of (of_members p.0 no_members) p.1

other : (opens : Bool) (deep : ℕ) (old : List Token) (t : Token) (ts : List Token) → old ≡ t ∷ ts → is_array_start t ≡ false → is_object_start t ≡ opens → 0 < deep
    → no_array (value_at deep old)
other true deep old t ts is a o room = ap (λ x. members_in (whole x)) (at_object deep old t ts is o room) ∙ no_object (json.members (value (deep - 1)) (length ts) ts)
other false deep old t ts is a o room = ap (λ x. members_in (whole x)) (ap (value_at deep) is ∙ scalar_at deep t ts a o) ∙ alone_if (scalar t) ts (no_scalar t)

read_as : (text : List ℕ) (given : Option (Data × List Token)) → IsUtf8 text → value_at max_depth (tokens text) ≡ given → array_of text ≡ members_in (whole given)
unfolding array_of
read_as text given utf8 is = ap members_in (json_of-text text utf8 ∙ read_is text ∙ ap whole is)

pub begun : (text : List ℕ) (t : Token) (ts : List Token) → IsUtf8 text → tokens text ≡ t ∷ ts → is_array_start t ≡ true → array_of text ≡ rest_of_array ts
unfolding rest_of_array
begun text t ts utf8 is starts = read_as text (array_at (max_depth - 1) ts) utf8 (at_array max_depth (tokens text) t ts is starts (omega arith))

pub not_begun : (text : List ℕ) (t : Token) (ts : List Token) → IsUtf8 text → tokens text ≡ t ∷ ts → is_array_start t ≡ false → array_of text ≡ None
not_begun text t ts utf8 is other_start = read_as text _ utf8 refl ∙ other (is_object_start t) max_depth (tokens text) t ts is other_start refl (omega arith)

pub empty : (text : List ℕ) → IsUtf8 text → tokens text ≡ [] → array_of text ≡ None
empty text utf8 is = read_as text None utf8 (nothing_given max_depth (tokens text) is)

pub no_text : (bytes : List ℕ) → (IsUtf8 bytes → ⊥) → array_of bytes ≡ None
unfolding array_of
no_text bytes other = ap members_in (json_of-none bytes (λ utf8. absurd (other utf8)))

-- ---- what is read next

-- the array of which these values were read, to the end of the text
abbrev held : List Value → Option (Items × List Token) → Option (List Data)
held vs o = members_in (whole (array_after vs o))

one_more : (v : Value) (o : Option (Items × List Token)) → held (v ∷ []) o ≡ option_map (λ ds. view v ∷ ds) (held [] o)
one_more v None = refl
one_more v (Some (ds, [])) = refl
one_more v (Some (ds, t ∷ ts)) = refl

starts_as : (ts : List Token) (o : Option (Data × List Token)) → array_with (max_depth - 1) [] (length ts) ts ≡ o → rest_of_array ts ≡ members_in (whole o)
unfolding rest_of_array
starts_as ts o is = ap (λ x. members_in (whole x)) (array_starts (max_depth - 1) ts ∙ is)

pub ends : (ts r : List Token) → after_end_array ts ≡ Some r → r ≡ [] → rest_of_array ts ≡ Some []
ends ts r e none = starts_as ts (Some (array no_items, r)) (array_ends (max_depth - 1) [] (length ts) ts r (omega arith) e) ∙ ap (λ s. members_in (whole (Some (array no_items, s)))) none

pub goes_on : (ts r : List Token) (t : Token) (more : List Token) → after_end_array ts ≡ Some r → r ≡ t ∷ more → rest_of_array ts ≡ None
goes_on ts r t more e some = starts_as ts (Some (array no_items, r)) (array_ends (max_depth - 1) [] (length ts) ts r (omega arith) e) ∙ ap (λ s. members_in (whole (Some (array no_items, s)))) some

pub lost : (ts : List Token) → after_end_array ts ≡ None → value_at (max_depth - 1) ts ≡ None → rest_of_array ts ≡ None
lost ts more none = starts_as ts None (array_fails (max_depth - 1) [] (length ts) ts more none)

pub member : (v : Value) (ts r : List Token) → after_end_array ts ≡ None → value_at (max_depth - 1) ts ≡ Some (view v, r) → length r < length ts
    → rest_of_array ts ≡ option_map (λ ds. view v ∷ ds) (rest_of_array r)
member v ts r more e less =
    let deep = max_depth - 1 in
    let turns : items (value deep) (length ts - 1) r ≡ items (value deep) (length r) r =
    enough (value deep) (skip_value-shorter deep) (length ts - 1) (length r) r (omega (arith, less)) (omega arith) in
    starts_as ts (array_with deep (v ∷ []) (length r) r)
    (array_goes_on deep [] v (length ts) ts r (omega (arith, less)) more e ∙ ap (λ o. array_after (v ∷ []) (converted of_items o)) turns)
    ∙ one_more v (converted of_items (items (value deep) (length r) r))
    ∙ ap (option_map (λ ds. view v ∷ ds)) (sym (starts_as r _ refl))
