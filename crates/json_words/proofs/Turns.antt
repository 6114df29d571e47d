-- A value, an item and a member, each read from the front of the tokens.
use Rattle.std.proofs.Common.{◌≡◌, ℕ, zero, suc, ◌-◌, ◌<◌, ◌≤◌, List, [], ◌∷◌, ◌++◌, length, true, false, true≢false, Option, Some, None, option_map, unwrap_or, Result, Ok, Err, IfOk, refl, sym, ap, ◌∙◌, subst, arith}
use Rattle.json.specs.Token.{Token}
use Rattle.json.specs.Json as json
use Rattle.json.specs.Json.{Parse, parse_map, after_end_array, read_key, value, items, members}
use Rattle.json.proofs.Grammar.{value_is, value-begin_array, value-begin_object, items_end, items_fail, items_more, members_end, members_no_key, members_fail, members_more}
use Rattle.serde_json.specs.Data.{Data, array, object, Items, no_items, item, Members, no_members, put}
use Rattle.serde_json.specs.Read.{of_json, of_items, of_members, converted}
use Rattle.serde_json.specs.View.{view, items_view}
use Rattle.serde_json.specs.declared.value.Value.{Value}
use Rattle.json_words.specs.Arrays.{array_at}
use Rattle.json_words.specs.inner.Given.{value_at, object_at, IsGiven, is_array_start, is_object_start, scalar}

-- ---- which token it is

pub array_start : (t : Token) → is_array_start t ≡ true → t ≡ Token.begin_array
array_start Token.begin_object e = absurd (true≢false (sym e))
array_start Token.end_object e = absurd (true≢false (sym e))
array_start Token.begin_array e = refl
array_start Token.end_array e = absurd (true≢false (sym e))
array_start (Token.key s) e = absurd (true≢false (sym e))
array_start (Token.string s) e = absurd (true≢false (sym e))
array_start (Token.number s) e = absurd (true≢false (sym e))
array_start (Token.boolean b) e = absurd (true≢false (sym e))
array_start Token.null e = absurd (true≢false (sym e))
array_start Token.bad e = absurd (true≢false (sym e))

pub object_start : (t : Token) → is_object_start t ≡ true → t ≡ Token.begin_object
object_start Token.begin_object e = refl
object_start Token.end_object e = absurd (true≢false (sym e))
object_start Token.begin_array e = absurd (true≢false (sym e))
object_start Token.end_array e = absurd (true≢false (sym e))
object_start (Token.key s) e = absurd (true≢false (sym e))
object_start (Token.string s) e = absurd (true≢false (sym e))
object_start (Token.number s) e = absurd (true≢false (sym e))
object_start (Token.boolean b) e = absurd (true≢false (sym e))
object_start Token.null e = absurd (true≢false (sym e))
object_start Token.bad e = absurd (true≢false (sym e))

pub scalar_at : (deep : ℕ) (t : Token) (ts : List Token) → is_array_start t ≡ false → is_object_start t ≡ false → value_at deep (t ∷ ts) ≡ option_map (λ d. (d, ts)) (scalar t)
scalar_at deep Token.begin_object ts a o = absurd (true≢false o)
scalar_at deep Token.end_object ts a o = ap (converted of_json) (value_is deep (Token.end_object ∷ ts))
scalar_at deep Token.begin_array ts a o = absurd (true≢false a)
scalar_at deep Token.end_array ts a o = ap (converted of_json) (value_is deep (Token.end_array ∷ ts))
scalar_at deep (Token.key s) ts a o = ap (converted of_json) (value_is deep (Token.key s ∷ ts))
scalar_at deep (Token.string s) ts a o = ap (converted of_json) (value_is deep (Token.string s ∷ ts))
scalar_at deep (Token.number s) ts a o = ap (converted of_json) (value_is deep (Token.number s ∷ ts))
scalar_at deep (Token.boolean b) ts a o = ap (converted of_json) (value_is deep (Token.boolean b ∷ ts))
scalar_at deep Token.null ts a o = ap (converted of_json) (value_is deep (Token.null ∷ ts))
scalar_at deep Token.bad ts a o = ap (converted of_json) (value_is deep (Token.bad ∷ ts))

-- what was read of one token
pub scalar_given : (deep : ℕ) (old : List Token) (t : Token) (ts : List Token) (r : Option Value) → old ≡ t ∷ ts → is_array_start t ≡ false → is_object_start t ≡ false
    → option_map view r ≡ scalar t → IsGiven (value_at deep old) r ts
scalar_given deep old t ts None is a o e = ap (value_at deep) is ∙ scalar_at deep t ts a o ∙ ap (option_map (λ d. (d, ts))) (sym e)
scalar_given deep old t ts (Some v) is a o e = ap (value_at deep) is ∙ scalar_at deep t ts a o ∙ ap (option_map (λ d. (d, ts))) (sym e)

pub nothing_given : (deep : ℕ) (old : List Token) → old ≡ [] → value_at deep old ≡ None
nothing_given deep old is = ap (value_at deep) is ∙ ap (converted of_json) (value_is deep [])

pub scalar_told : {E : Type 0} (deep : ℕ) (old : List Token) (t : Token) (ts : List Token) (r : Result (Option Value) E) → old ≡ t ∷ ts → is_array_start t ≡ false → is_object_start t ≡ false
    → IfOk r (λ x. option_map view x ≡ scalar t) → IfOk r (λ x. IsGiven (value_at deep old) x ts)
scalar_told deep old t ts (Ok x) is a o e = scalar_given deep old t ts x is a o e
scalar_told deep old t ts (Err e) is a o h = tt

moved : (x y : Option (Data × List Token)) (r : Option Value) (left : List Token) → x ≡ y → IsGiven y r left → IsGiven x r left
moved x y None left same e = same ∙ e
moved x y (Some v) left same e = same ∙ e

-- what is given is all that a reading tells
pub told : {E : Type 0} (x y : Option (Data × List Token)) (r : Result (Option Value) E) (left : List Token) → x ≡ y → IfOk r (λ o. IsGiven y o left) → IfOk r (λ o. IsGiven x o left)
told x y (Ok o) left same e = moved x y o left same e
told x y (Err f) left same e = tt

-- the same tokens give the same
pub from_front : (deep : ℕ) (r : Option Value) (left : List Token) {old ts : List Token} → old ≡ ts → IsGiven (value_at deep old) r left → IsGiven (value_at deep ts) r left
from_front deep r left same e = subst (λ x. IsGiven (value_at deep x) r left) same e

at_start : (deep : ℕ) (old : List Token) (t u : Token) (ts : List Token) → old ≡ t ∷ ts → t ≡ u → value_at deep old ≡ value_at deep (u ∷ ts)
at_start deep old t u ts is same = ap (value_at deep) (is ∙ ap (λ k. k ∷ ts) same)

pub at_array : (deep : ℕ) (old : List Token) (t : Token) (ts : List Token) → old ≡ t ∷ ts → is_array_start t ≡ true → 0 < deep → value_at deep old ≡ array_at (deep - 1) ts
at_array deep old t ts is starts room = at_start deep old t Token.begin_array ts is (array_start t starts) ∙ ap (converted of_json) (value-begin_array deep ts room)

pub at_object : (deep : ℕ) (old : List Token) (t : Token) (ts : List Token) → old ≡ t ∷ ts → is_object_start t ≡ true → 0 < deep → value_at deep old ≡ object_at (deep - 1) ts
at_object deep old t ts is starts room = at_start deep old t Token.begin_object ts is (object_start t starts) ∙ ap (converted of_json) (value-begin_object deep ts room)

no_room : (deep : ℕ) (t : Token) (ts : List Token) → deep ≡ 0 → value_at 0 (t ∷ ts) ≡ None → value_at deep (t ∷ ts) ≡ None
no_room deep t ts none e = ap (λ n. value_at n (t ∷ ts)) none ∙ e

pub array_too_deep : (deep : ℕ) (old : List Token) (t : Token) (ts : List Token) → old ≡ t ∷ ts → is_array_start t ≡ true → deep ≡ 0 → value_at deep old ≡ None
unfolding value
array_too_deep deep old t ts is starts none = at_start deep old t Token.begin_array ts is (array_start t starts) ∙ no_room deep Token.begin_array ts none refl

pub object_too_deep : (deep : ℕ) (old : List Token) (t : Token) (ts : List Token) → old ≡ t ∷ ts → is_object_start t ≡ true → deep ≡ 0 → value_at deep old ≡ None
unfolding value
object_too_deep deep old t ts is starts none = at_start deep old t Token.begin_object ts is (object_start t starts) ∙ no_room deep Token.begin_object ts none refl

-- ---- behind the conversion stands a value of the grammar

split : (r s : List Token) (x : Option Data) (d : Data) → option_map {U = Data × List Token} (λ b. (b, r)) x ≡ Some (d, s) → (r ≡ s) × (x ≡ Some d)
split r s None d e = absurd (cc)
split r s (Some y) d e = let same = ap (λ o. unwrap_or o (y, r)) e in (ap (λ p. p.1) same, ap (λ p. Some p.0) same)

grammar_of : (o : Option (json.Json × List Token)) (d : Data) (r : List Token) → converted of_json o ≡ Some (d, r) → (j : json.Json) × (o ≡ Some (j, r)) × (of_json j ≡ Some d)
grammar_of None d r e = absurd (cc)
grammar_of (Some p) d r e = let both = split p.1 r (of_json p.0) d e in (p.0, ap (λ s. Some (p.0, s)) both.0, both.1)

no_data : (r : List Token) (x : Option Data) → option_map {U = Data × List Token} (λ b. (b, r)) x ≡ None → x ≡ None
no_data r None e = refl
no_data r (Some d) e = absurd (cc)

-- ---- arrays

-- these values, and then those
abbrev pub onto : List Value → Items → Items
onto [] ds = ds
onto (v ∷ vs) ds = item (view v) (onto vs ds)

onto-end : (vs : List Value) → onto vs no_items ≡ items_view vs
onto-end [] = refl
onto-end (v ∷ vs) = ap (item (view v)) (onto-end vs)

onto-push : (vs : List Value) (v : Value) (ds : Items) → onto vs (item (view v) ds) ≡ onto (vs ++ v ∷ []) ds
onto-push [] v ds = refl
onto-push (w ∷ vs) v ds = ap (item (view w)) (onto-push vs v ds)

-- the array of these values and of what is left of it
abbrev pub array_after : List Value → Option (Items × List Token) → Option (Data × List Token)
array_after vs None = None
array_after vs (Some p) = Some (array (onto vs p.0), p.1)

opened_array : (r : List Token) (x : Option Items) → option_map {U = Data × List Token} (λ b. (b, r)) (option_map array x) ≡ array_after [] (option_map (λ b. (b, r)) x)
opened_array r None = refl
opened_array r (Some ds) = refl

array_begun : (o : Option (json.Items × List Token)) → converted of_json (parse_map json.array o) ≡ array_after [] (converted of_items o)
array_begun None = refl
array_begun (Some p) = opened_array p.1 (of_items p.0)

turned : (vs : List Value) (v : Value) (r : List Token) (x : Option Items) → array_after vs (option_map (λ b. (b, r)) (option_map (item (view v)) x)) ≡ array_after (vs ++ v ∷ []) (option_map (λ b. (b, r)) x)
turned vs v r None = refl
turned vs v r (Some ds) = ap (λ es. Some (array es, r)) (onto-push vs v ds)

item_turned : (vs : List Value) (v : Value) (j : json.Json) → of_json j ≡ Some (view v) → (o : Option (json.Items × List Token))
    → array_after vs (converted of_items (parse_map (json.item j) o)) ≡ array_after (vs ++ v ∷ []) (converted of_items o)
item_turned vs v j e None = refl
item_turned vs v j e (Some p) = rw e (turned vs v p.1 (of_items p.0))

item_lost : (j : json.Json) → of_json j ≡ None → (o : Option (json.Items × List Token)) → converted of_items (parse_map (json.item j) o) ≡ None
item_lost j e None = refl
item_lost j e (Some p) = rw e refl

-- ---- objects

opened_object : (r : List Token) (x : Option Members) → option_map {U = Data × List Token} (λ b. (b, r)) (option_map object x) ≡ parse_map object (option_map (λ b. (b, r)) x)
opened_object r None = refl
opened_object r (Some ms) = refl

object_begun : (o : Option (json.Members × List Token)) → converted of_json (parse_map json.object o) ≡ parse_map object (converted (λ ms. of_members ms no_members) o)
object_begun None = refl
object_begun (Some p) = opened_object p.1 (of_members p.0 no_members)

member_turned : (found : Members) (k : List ℕ) (d : Data) (j : json.Json) → of_json j ≡ Some d → (o : Option (json.Members × List Token))
    → converted (λ ms. of_members ms found) (parse_map (json.member k j) o) ≡ converted (λ ms. of_members ms (put k d found)) o
member_turned found k d j e None = refl
member_turned found k d j e (Some p) = rw e refl

member_lost : (found : Members) (k : List ℕ) (j : json.Json) → of_json j ≡ None → (o : Option (json.Members × List Token))
    → converted (λ ms. of_members ms found) (parse_map (json.member k j) o) ≡ None
member_lost found k j e None = refl
member_lost found k j e (Some p) = rw e refl

-- ---- the turns of both loops

module _ (deep : ℕ) where
  -- an array, of which these values were read; n is a bound on the turns to come
  abbrev pub array_with : List Value → ℕ → List Token → Option (Data × List Token)
  array_with vs n ts = array_after vs (converted of_items (items (value deep) n ts))

  pub array_starts : (ts : List Token) → array_at deep ts ≡ array_with [] (length ts) ts
  array_starts ts = array_begun (items (value deep) (length ts) ts)

  pub array_ends : (vs : List Value) (n : ℕ) (ts r : List Token) → length ts ≤ n → after_end_array ts ≡ Some r → array_with vs n ts ≡ Some (array (items_view vs), r)
  array_ends vs n ts r le e = ap (λ o. array_after vs (converted of_items o)) (items_end (value deep) n ts r le e) ∙ ap (λ ds. Some (array ds, r)) (onto-end vs)

  pub array_goes_on : (vs : List Value) (v : Value) (n : ℕ) (ts r : List Token) → 0 < n → after_end_array ts ≡ None → value_at deep ts ≡ Some (view v, r) → array_with vs n ts ≡ array_with (vs ++ v ∷ []) (n - 1) r
  array_goes_on vs v n ts r some more e =
      let j = grammar_of (value deep ts) (view v) r e in
      ap (λ o. array_after vs (converted of_items o)) (items_more (value deep) n ts r j.0 some more j.1) ∙ item_turned vs v j.0 j.2 _

  none_of_array : (n : ℕ) (ts : List Token) (o : Option (json.Json × List Token)) → after_end_array ts ≡ None → value deep ts ≡ o → converted of_json o ≡ None → converted of_items (items (value deep) n ts) ≡ None
  unfolding items
  none_of_array zero ts o more is e = refl
  none_of_array (suc n) ts None more is e = ap (converted of_items) (items_fail (value deep) (suc n) ts more is)
  none_of_array (suc n) ts (Some p) more is e =
      ap (converted of_items) (items_more (value deep) (suc n) ts p.1 p.0 (omega arith) more is) ∙ item_lost p.0 (no_data p.1 (of_json p.0) e) _

  pub array_fails : (vs : List Value) (n : ℕ) (ts : List Token) → after_end_array ts ≡ None → value_at deep ts ≡ None → array_with vs n ts ≡ None
  array_fails vs n ts more e = ap (array_after vs) (none_of_array n ts (value deep ts) more refl e)

  abbrev pub object_with : Members → ℕ → List Token → Option (Data × List Token)
  object_with found n ts = parse_map object (converted (λ ms. of_members ms found) (members (value deep) n ts))

  pub object_starts : (ts : List Token) → object_at deep ts ≡ object_with no_members (length ts) ts
  object_starts ts = object_begun (members (value deep) (length ts) ts)

  pub object_ends : (found : Members) (n : ℕ) (ts r : List Token) → length ts ≤ n → read_key ts ≡ Some (None, r) → object_with found n ts ≡ Some (object found, r)
  object_ends found n ts r le e = ap (λ o. parse_map object (converted (λ ms. of_members ms found) o)) (members_end (value deep) n ts r le e)

  pub object_lacks_key : (found : Members) (n : ℕ) (ts : List Token) → read_key ts ≡ None → object_with found n ts ≡ None
  object_lacks_key found n ts e = ap (λ o. parse_map object (converted (λ ms. of_members ms found) o)) (members_no_key (value deep) n ts e)

  pub object_goes_on : (found : Members) (k : List ℕ) (d : Data) (n : ℕ) (ts s r : List Token) → 0 < n → read_key ts ≡ Some (Some k, s) → value_at deep s ≡ Some (d, r)
      → object_with found n ts ≡ object_with (put k d found) (n - 1) r
  object_goes_on found k d n ts s r some key e =
      let j = grammar_of (value deep s) d r e in
      ap (λ o. parse_map object (converted (λ ms. of_members ms found) o)) (members_more (value deep) n k ts s r j.0 some key j.1) ∙ ap (parse_map object) (member_turned found k d j.0 j.2 _)

  none_of_object : (found : Members) (n : ℕ) (k : List ℕ) (ts s : List Token) (o : Option (json.Json × List Token)) → read_key ts ≡ Some (Some k, s) → value deep s ≡ o → converted of_json o ≡ None
      → converted (λ ms. of_members ms found) (members (value deep) n ts) ≡ None
  unfolding members
  none_of_object found zero k ts s o key is e = refl
  none_of_object found (suc n) k ts s None key is e = ap (converted (λ ms. of_members ms found)) (members_fail (value deep) (suc n) k ts s key is)
  none_of_object found (suc n) k ts s (Some p) key is e =
      ap (converted (λ ms. of_members ms found)) (members_more (value deep) (suc n) k ts s p.1 p.0 (omega arith) key is) ∙ member_lost found k p.0 (no_data p.1 (of_json p.0) e) _

  pub object_fails : (found : Members) (n : ℕ) (k : List ℕ) (ts s : List Token) → read_key ts ≡ Some (Some k, s) → value_at deep s ≡ None → object_with found n ts ≡ None
  object_fails found n k ts s key e = ap (parse_map object) (none_of_object found n k ts s (value deep s) key refl e)
