-- What is written token by token.
use Rattle.std.proofs.Common.{◌≡◌, ◌∙◌, ◌<◌, ◌≤◌, ◌+◌, ℕ, refl, sym, ap, ap₂, subst, List, [], ◌∷◌, ◌++◌, length, get_or, Ok, append_assoc, append-nil, map, take}
use Rattle.std.proofs.lemmas.List.{map_more, take_all}
use Rattle.std.specs.declared.alloc.AllocError.{AllocError}
use Rattle.json.specs.Token.{Token}
use Rattle.json.specs.Token as token
use Rattle.json.specs.Print.{print}
use Rattle.json.specs.Tree.{items_tokens}
use Rattle.json.specs.Written.{Written, Writes}
use Rattle.serde_json.specs.Data.{Data, array}
use Rattle.serde_json.specs.View.{items_of}
use Rattle.serde_json.specs.Written.{items_outline, compact_text}
use Rattle.serde_json.proofs.Texts.{print-outline}
use Rattle.entity_uids.specs.Tokens.{AppendsTokens, tokens_of, tokens_of_all}

pub start : (w : Written) → AppendsTokens w w []
start w = record { before = refl; tokens = sym (append-nil w.tokens) }

-- a token more
pub then : {old mid new : Written} {us : List Token} {t : Token} {u : Unit {0}} → AppendsTokens old mid us → Writes {E = AllocError} (Ok u) mid new t → AppendsTokens old new (us ++ t ∷ [])
then {old = old} {us = us} {t = t} h w = record {
  before = w.room.0 ∙ h.before;
  tokens = w.ok ∙ ap (λ (l : List Token). l ++ t ∷ []) h.tokens ∙ append_assoc old.tokens us (t ∷ []);
}

-- one token
pub one : {old new : Written} {t : Token} {u : Unit {0}} → Writes {E = AllocError} (Ok u) old new t → AppendsTokens old new (t ∷ [])
one {old = old} w = then (start old) w

-- the same tokens in other words
pub alike : {old new : Written} {ts us : List Token} → ts ≡ us → AppendsTokens old new ts → AppendsTokens old new us
alike {old = old} e h = record { before = h.before; tokens = h.tokens ∙ ap (λ (l : List Token). old.tokens ++ l) e }

-- some more
pub joined : {old mid new : Written} {us ts : List Token} → AppendsTokens old mid us → AppendsTokens mid new ts → AppendsTokens old new (us ++ ts)
joined {old = old} {us = us} {ts = ts} h w = record {
  before = w.before ∙ h.before;
  tokens = w.tokens ∙ ap (λ (l : List Token). l ++ ts) h.tokens ∙ append_assoc old.tokens us ts;
}

pub all_more : (ds es : List Data) → tokens_of_all (ds ++ es) ≡ tokens_of_all ds ++ tokens_of_all es
all_more [] es = refl
all_more (d ∷ ds) es = ap (λ (l : List Token). tokens_of d ++ l) (all_more ds es) ∙ sym (append_assoc (tokens_of d) (tokens_of_all ds) (tokens_of_all es))

pub items_closed : (ds : List Data) → tokens_of_all ds ++ token.end_array ∷ [] ≡ items_tokens (items_outline (items_of ds))
items_closed [] = refl
items_closed (d ∷ ds) = append_assoc (tokens_of d) (tokens_of_all ds) (token.end_array ∷ []) ∙ ap (λ (l : List Token). tokens_of d ++ l) (items_closed ds)

-- ---- of a list, the first ones

abbrev pub first_tokens : {X : Type 0} → (X → Data) → List X → ℕ → List Token
first_tokens f xs i = token.begin_array ∷ tokens_of_all (map f (take i xs))

pub opened : {X : Type 0} (f : X → Data) (xs : List X) {old new : Written} {u : Unit {0}} → Writes {E = AllocError} (Ok u) old new token.begin_array → AppendsTokens old new (first_tokens f xs 0)
opened f xs {old = old} w = then (start old) w

pub one_more : {X : Type 0} (f : X → Data) (xs : List X) (i : ℕ) (x : X) {old mid new : Written} → i < length xs → x ≡ get_or xs i x
    → AppendsTokens old mid (first_tokens f xs i) → AppendsTokens mid new (tokens_of (f x)) → AppendsTokens old new (first_tokens f xs (i + 1))
one_more f xs i x {old = old} lt at h w =
    let made : map f (take (i + 1) xs) ≡ map f (take i xs) ++ f x ∷ [] = map_more f xs i x lt ∙ ap (λ (y : Data). map f (take i xs) ++ y ∷ []) (sym (ap f at)) in
    let tokens : tokens_of_all (map f (take i xs)) ++ tokens_of (f x) ≡ tokens_of_all (map f (take (i + 1) xs)) =
    ap (λ (l : List Token). tokens_of_all (map f (take i xs)) ++ l) (sym (append-nil (tokens_of (f x))))
    ∙ sym (all_more (map f (take i xs)) (f x ∷ [])) ∙ ap tokens_of_all (sym made) in
    let both = joined h w in
    record { before = both.before; tokens = both.tokens ∙ ap (λ (l : List Token). old.tokens ++ token.begin_array ∷ l) tokens }

pub whole : {X : Type 0} (f : X → Data) (xs : List X) (i : ℕ) {old mid new : Written} {u : Unit {0}} → length xs ≤ i
    → AppendsTokens old mid (first_tokens f xs i) → Writes {E = AllocError} (Ok u) mid new token.end_array → AppendsTokens old new (tokens_of (array (items_of (map f xs))))
whole {X = X} f xs i {old = old} {mid = mid} {new = new} le h w =
    let all : AppendsTokens old new ((token.begin_array ∷ tokens_of_all (map f xs)) ++ token.end_array ∷ []) =
    subst (λ (ys : List X). AppendsTokens old new ((token.begin_array ∷ tokens_of_all (map f ys)) ++ token.end_array ∷ [])) (take_all i xs le) (then h w) in
    record { before = all.before; tokens = all.tokens ∙ ap (λ (l : List Token). old.tokens ++ token.begin_array ∷ l) (items_closed (map f xs)) }

-- ---- the text

pub text_is : {old new : Written} (d : Data) (text : List ℕ) → old.before ≡ [] → old.tokens ≡ [] → AppendsTokens old new (tokens_of d) → text ≡ new.before ++ print new.tokens → text ≡ compact_text d
text_is d text before tokens h is =
    is ∙ ap₂ (λ (b : List ℕ) (ts : List Token). b ++ print ts) (h.before ∙ before) (h.tokens ∙ ap (λ (ts : List Token). ts ++ tokens_of d) tokens) ∙ print-outline d
