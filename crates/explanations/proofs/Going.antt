-- The search in the rest of a list, behind what was searched before.
use Rattle.std.proofs.Common.{◌≡◌, ◌∙◌, ℕ, ◌+◌, ◌<◌, ◌≤◌, drop, get_or, length, Option, Some, None, Result, Ok, Err, IfOk, OnOk, MatchResult, String, Vec, BTreeMap, Global, string_bytes, List, [], ◌∷◌, refl, sym, ap, subst, rules}
use Rattle.std.proofs.lemmas.List.{drop_more, drop_all}
use Rattle.serde_json.specs.Data.{Data}
use Rattle.serde_json.specs.Data as json
use Rattle.serde_json.specs.View.{view, number_view, items_view, members_view}
use Rattle.serde_json.specs.declared.value.Value.{Value, out-Value, roll-Value, roll-out-Value, the_lemmas}
use Rattle.serde_json.specs.declared.value.Value.TheOpen.{Value-F}
use Rattle.serde_json.specs.declared.value.Value.TheVariants as value
use Rattle.schema_types.specs.Cedar.{Cedar, CedarFields}
use Rattle.entities.specs.Parts.{declared_at}
use Rattle.entities.specs.Typing.{with_or, typed_value}
use Rattle.explanations.specs.Steps.{Step, Key, Index}
use Rattle.explanations.specs.inner.FoundPaths.{or_else, under, whole_path, value_path, item_path, member_path}

pub cut : {A : Type 0} (vs : List A) (i : ℕ) (v : A) → i < length vs → v ≡ get_or vs i v → drop i vs ≡ v ∷ drop (i + 1) vs
cut {A = A} vs i v lt at = drop_more vs i v lt ∙ ap (λ (w : A). w ∷ drop (i + 1) vs) (sym at)

-- ---- values without parts

by_whole : (t : Cedar) (v w : Value) (d : Data) → v ≡ w → view w ≡ d → value_path t d ≡ whole_path (typed_value t d) → value_path t (view v) ≡ whole_path (typed_value t (view v))
by_whole t v w d e f h = subst (λ (x : Data). value_path t x ≡ whole_path (typed_value t x)) (sym (ap view e ∙ f)) h

is_value : (v w : Value) (y : Value-F Value) → out-Value v ≡ y → roll-Value y ≡ w → v ≡ w
is_value v w y e f = sym (roll-out-Value v) ∙ ap roll-Value e ∙ f

whole_at : (t : Cedar) (v : Value) (y : Value-F Value) → out-Value v ≡ y → ((xs : Vec Value Global) → v ≡ value.Array xs → ⊥)
    → ((ms : BTreeMap (String Global) Value) → v ≡ value.Object ms → ⊥) → value_path t (view v) ≡ whole_path (typed_value t (view v))
unfolding value_path
whole_at t v Value-F.Null e no_array no_object = by_whole t v value.Null json.null (is_value v value.Null Value-F.Null e value.rolls-Null) (search (rules, the_lemmas)) refl
whole_at t v (Value-F.Bool b) e no_array no_object = by_whole t v (value.Bool b) (json.boolean b) (is_value v (value.Bool b) (Value-F.Bool b) e (value.rolls-Bool b)) (search (rules, the_lemmas)) refl
whole_at t v (Value-F.Number n) e no_array no_object =
    by_whole t v (value.Number n) (json.number (number_view n)) (is_value v (value.Number n) (Value-F.Number n) e (value.rolls-Number n)) (search (rules, the_lemmas)) refl
whole_at t v (Value-F.String s) e no_array no_object =
    by_whole t v (value.String s) (json.string (string_bytes s)) (is_value v (value.String s) (Value-F.String s) e (value.rolls-String s)) (search (rules, the_lemmas)) refl
whole_at t v (Value-F.Array xs) e no_array no_object = absurd (no_array xs (is_value v (value.Array xs) (Value-F.Array xs) e (value.rolls-Array xs)))
whole_at t v (Value-F.Object ms) e no_array no_object = absurd (no_object ms (is_value v (value.Object ms) (Value-F.Object ms) e (value.rolls-Object ms)))

pub whole-other : (t : Cedar) (v : Value) → ((xs : Vec Value Global) → v ≡ value.Array xs → ⊥) → ((ms : BTreeMap (String Global) Value) → v ≡ value.Object ms → ⊥)
    → whole_path (typed_value t (view v)) ≡ value_path t (view v)
whole-other t v no_array no_object = sym (whole_at t v (out-Value v) refl no_array no_object)

-- ---- items

item_first : (t : Cedar) (i : ℕ) (v : Value) (vs : List Value) (o : Option (List Step)) → o ≡ value_path t (view v)
    → item_path t i (items_view (v ∷ vs)) ≡ or_else (under (Index i) o) (item_path t (i + 1) (items_view vs))
unfolding value_path
item_first t i v vs o e = ap (λ (p : Option (List Step)). or_else (under (Index i) p) (item_path t (i + 1) (items_view vs))) (sym e)

pub item_goes : (t : Cedar) (vs : List Value) (i : ℕ) (v : Value) (total : Option (List Step)) → i < length vs → v ≡ get_or vs i v → None ≡ value_path t (view v)
    → total ≡ item_path t i (items_view (drop i vs)) → total ≡ item_path t (i + 1) (items_view (drop (i + 1) vs))
item_goes t vs i v total lt at none so_far =
    so_far ∙ ap (λ (l : List Value). item_path t i (items_view l)) (cut vs i v lt at) ∙ item_first t i v (drop (i + 1) vs) None none

pub item_stops : (t : Cedar) (vs : List Value) (i : ℕ) (v : Value) (p : List Step) (total : Option (List Step)) → i < length vs → v ≡ get_or vs i v → Some p ≡ value_path t (view v)
    → total ≡ item_path t i (items_view (drop i vs)) → Some (Index i ∷ p) ≡ total
item_stops t vs i v p total lt at here so_far =
    sym (so_far ∙ ap (λ (l : List Value). item_path t i (items_view l)) (cut vs i v lt at) ∙ item_first t i v (drop (i + 1) vs) (Some p) here)

pub items_done : (t : Cedar) (vs : List Value) (n : ℕ) (total : Option (List Step)) → length vs ≤ n → total ≡ item_path t n (items_view (drop n vs)) → None ≡ total
unfolding value_path
items_done t vs n total le so_far = sym (so_far ∙ ap (λ (l : List Value). item_path t n (items_view l)) (drop_all n vs le))

-- ---- members

member_first : (fs : CedarFields) (k : String Global) (v : Value) (es : List (String Global × Value)) (o : Option Cedar) → o ≡ declared_at (string_bytes k) fs
    → member_path fs (members_view ((k, v) ∷ es)) ≡ or_else (under (Key (string_bytes k)) (with_or o (λ t. value_path t (view v)) (Some []))) (member_path fs (members_view es))
unfolding value_path
member_first fs k v es o e =
    ap (λ (p : Option Cedar). or_else (under (Key (string_bytes k)) (with_or p (λ t. value_path t (view v)) (Some []))) (member_path fs (members_view es))) (sym e)

member_known : (fs : CedarFields) (k : String Global) (v : Value) (es : List (String Global × Value)) (t : Cedar) (o : Option (List Step)) → Some t ≡ declared_at (string_bytes k) fs → o ≡ value_path t (view v)
    → member_path fs (members_view ((k, v) ∷ es)) ≡ or_else (under (Key (string_bytes k)) o) (member_path fs (members_view es))
member_known fs k v es t o here e =
    member_first fs k v es (Some t) here ∙ ap (λ (p : Option (List Step)). or_else (under (Key (string_bytes k)) p) (member_path fs (members_view es))) (sym e)

pub member_unknown : (fs : CedarFields) (k : String Global) (v : Value) (es : List (String Global × Value)) (total : Option (List Step)) → None ≡ declared_at (string_bytes k) fs
    → total ≡ member_path fs (members_view ((k, v) ∷ es)) → Some (Key (string_bytes k) ∷ []) ≡ total
member_unknown fs k v es total none so_far = sym (so_far ∙ member_first fs k v es None none)

pub member_goes : (fs : CedarFields) (k : String Global) (v : Value) (es : List (String Global × Value)) (t : Cedar) (total : Option (List Step)) → Some t ≡ declared_at (string_bytes k) fs
    → None ≡ value_path t (view v) → total ≡ member_path fs (members_view ((k, v) ∷ es)) → total ≡ member_path fs (members_view es)
member_goes fs k v es t total here none so_far = so_far ∙ member_known fs k v es t None here none

pub member_stops : (fs : CedarFields) (k : String Global) (v : Value) (es : List (String Global × Value)) (t : Cedar) (p : List Step) (total : Option (List Step)) → Some t ≡ declared_at (string_bytes k) fs
    → Some p ≡ value_path t (view v) → total ≡ member_path fs (members_view ((k, v) ∷ es)) → Some (Key (string_bytes k) ∷ p) ≡ total
member_stops fs k v es t p total here found so_far = sym (so_far ∙ member_known fs k v es t (Some p) here found)

pub members_done : (fs : CedarFields) (total : Option (List Step)) → total ≡ member_path fs (members_view []) → None ≡ total
unfolding value_path
members_done fs total so_far = sym so_far

-- ---- any search through items, by its index

pub search_goes : (F : ℕ → List Value → Option (List Step)) (vs : List Value) (i : ℕ) (v : Value) (total : Option (List Step)) → i < length vs → v ≡ get_or vs i v
    → F i (v ∷ drop (i + 1) vs) ≡ F (i + 1) (drop (i + 1) vs) → total ≡ F i (drop i vs) → total ≡ F (i + 1) (drop (i + 1) vs)
search_goes F vs i v total lt at next so_far = so_far ∙ ap (F i) (cut vs i v lt at) ∙ next

pub search_stops : (F : ℕ → List Value → Option (List Step)) (vs : List Value) (i : ℕ) (v : Value) (o total : Option (List Step)) → i < length vs → v ≡ get_or vs i v
    → F i (v ∷ drop (i + 1) vs) ≡ o → total ≡ F i (drop i vs) → o ≡ total
search_stops F vs i v o total lt at found so_far = sym (so_far ∙ ap (F i) (cut vs i v lt at) ∙ found)

-- ---- any loop over a list, by what is left of it

pub rest_goes : {A B : Type 0} (F : List A → B) (xs : List A) (i : ℕ) (x : A) (total : B) → i < length xs → x ≡ get_or xs i x → F (x ∷ drop (i + 1) xs) ≡ F (drop (i + 1) xs)
    → total ≡ F (drop i xs) → total ≡ F (drop (i + 1) xs)
rest_goes F xs i x total lt at next so_far = so_far ∙ ap F (cut xs i x lt at) ∙ next

pub rest_stops : {A B : Type 0} (F : List A → B) (xs : List A) (i : ℕ) (x : A) (o total : B) → i < length xs → x ≡ get_or xs i x → F (x ∷ drop (i + 1) xs) ≡ o
    → total ≡ F (drop i xs) → o ≡ total
rest_stops F xs i x o total lt at found so_far = sym (so_far ∙ ap F (cut xs i x lt at) ∙ found)

pub rest_done : {A B : Type 0} (F : List A → B) (xs : List A) (n : ℕ) (total : B) → length xs ≤ n → total ≡ F (drop n xs) → F [] ≡ total
rest_done F xs n total le so_far = sym (so_far ∙ ap F (drop_all n xs le))

-- ---- what follows of a value

pub if_ok : {A E : Type 0} (r : Result A E) (P Q : A → Type 0) → ((x : A) → P x → Q x) → IfOk r P → IfOk r Q
if_ok (Ok x) P Q f h = f x h
if_ok (Err e) P Q f h = h

-- what a search found, with a step in front
pub under_found : {E F : Type 0} (step : Step) (found : Result (Option (List Step)) E) (out : Result (Option (List Step)) F) (o : Option (List Step)) → IfOk found (λ p. p ≡ o)
    → IfOk out (λ q. MatchResult found (λ p. q ≡ under step p) (λ _. ⊥)) → IfOk out (λ q. q ≡ under step o)
under_found step (Ok p) (Ok q) o e h = h ∙ ap (under step) e
under_found step (Err f) (Ok q) o e h = absurd h
under_found step found (Err f) o e h = tt

pub on_ok : {A E : Type 0} (r : Result A E) (P Q : Type 0) → (P → Q) → OnOk r P → OnOk r Q
on_ok (Ok x) P Q f h = f h
on_ok (Err e) P Q f h = h

pub made_so : {A E : Type 0} (r : Result A E) (x : A) (P : A → Type 0) → r ≡ Ok x → IfOk r P → P x
made_so {A = A} {E = E} r x P e h = subst (λ (q : Result A E). IfOk q P) e h
