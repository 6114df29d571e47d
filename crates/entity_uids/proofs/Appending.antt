-- What is written token by token is the text of one value, and is read as this value.
use Rattle.std.proofs.Common.{◌≡◌, ◌∙◌, ℕ, suc, ◌<◌, ◌≤◌, ◌^◌, List, [], ◌∷◌, ◌++◌, Result, Ok, Err, Some, OnOk, Option, option_map, option_and_then, refl, sym, ap, subst, append-nil, arith}
use Rattle.std.specs.List.{AllByRecursion}
use Rattle.std.specs.Str.{IsUtf8}
use Rattle.json.specs.Token.{Token, begin_array, end_array, key}
use Rattle.json.specs.Json as json
use Rattle.json.specs.Lex.{tokens}
use Rattle.json.specs.Print.{print}
use Rattle.json.specs.Tree as tree
use Rattle.json.specs.Written.{Written, Writes}
use Rattle.json.proofs.Printed.Trees.{value-json_tokens}
use Rattle.serde_json.specs.Data.{Data, null, boolean, number, unsigned, string, array, object, Items, no_items, item, Members, no_members, member, put, depth, items_depth, members_depth}
use Rattle.serde_json.specs.Read.{of_json, of_items, of_members, max_depth}
use Rattle.serde_json.specs.View.{items_of}
use Rattle.serde_json.specs.Written.{outline, items_outline, members_outline, compact_text}
use Rattle.serde_json.proofs.Numbers.{number_of-decimal}
use Rattle.serde_json.proofs.Texts.{print-outline}
use Rattle.json_words.specs.Json.{json_of}
use Rattle.json_words.proofs.JsonLemmas.{json_of-text}
use Rattle.entity_uids.specs.Tokens.{tokens_of, AppendsTokens, IsReadAgain, AppendsValue, AppendsMember, AppendsAll}
use Rattle.entity_uids.proofs.Adding.{start, joined, all_more, items_closed}

-- ---- tokens

pub wrote : {E : Type 0} {x : Unit {0}} {old new : Written} {t : Token} → Writes {E = E} (Ok x) old new t → AppendsTokens old new (t ∷ [])
wrote w = record { tokens = w.ok; before = w.room.0 }

-- with the last token
pub ends : {E : Type 0} (r : Result (Unit {0}) E) {old new : Written} {t : Token} (P : Type 0) → Writes r old new t → (AppendsTokens old new (t ∷ []) → P) → OnOk r P
ends (Ok x) P w f = f (wrote w)
ends (Err e) P w f = tt

pub and_then : {a b c : Written} {s t : List Token} → AppendsTokens a b s → AppendsTokens b c t → AppendsTokens a c (s ++ t)
and_then h k = joined h k

-- ---- members

pub number_member : {a b c : Written} {k : List ℕ} (n : ℕ) → n < 2 ^ 64 → AppendsTokens a b (key k ∷ []) → AppendsTokens b c (tokens_of (number (unsigned n))) → AppendsMember a c k (number (unsigned n))
number_member n fits h e = record { written = and_then h e; again = ap (option_map number) (number_of-decimal n fits) }

-- a member is read, and then those behind it
pub member_again : (k : List ℕ) (d : Data) (ms found : Members) → IsReadAgain d → of_members (members_outline (member k d ms)) found ≡ of_members (members_outline ms) (put k d found)
member_again k d ms found h = ap (option_and_then (λ e. of_members (members_outline ms) (put k e found))) h

pub object_again : (ms : Members) → of_members (members_outline ms) no_members ≡ Some ms → IsReadAgain (object ms)
object_again ms h = ap (option_map object) h

-- ---- values one behind another

pub none_written : (w : Written) → AppendsAll w w []
none_written w = record { written = start w; again = tt }

pub one_written : {a b : Written} {d : Data} → AppendsValue a b d → AppendsAll a b (d ∷ [])
one_written {a} {b} {d} h = record {
  written = subst (AppendsTokens a b) (sym (append-nil (tokens_of d))) h.written;
  again = (h.again, tt);
}

again-append : (ds es : List Data) → AllByRecursion IsReadAgain ds → AllByRecursion IsReadAgain es → AllByRecursion IsReadAgain (ds ++ es)
again-append [] es h k = k
again-append (d ∷ ds) es h k = (h.0, again-append ds es h.1 k)

pub both_written : {a b c : Written} {ds es : List Data} → AppendsAll a b ds → AppendsAll b c es → AppendsAll a c (ds ++ es)
both_written {a} {b} {c} {ds} {es} h k = record {
  written = subst (AppendsTokens a c) (sym (all_more ds es)) (and_then h.written k.written);
  again = again-append ds es h.again k.again;
}

items_again : (ds : List Data) → AllByRecursion IsReadAgain ds → of_items (items_outline (items_of ds)) ≡ Some (items_of ds)
items_again [] h = refl
items_again (d ∷ ds) h = rw (h.0, items_again ds h.1) refl

pub array_written : {a b c e : Written} {ds : List Data} → AppendsTokens a b (begin_array ∷ []) → AppendsAll b c ds → AppendsTokens c e (end_array ∷ []) → AppendsValue a e (array (items_of ds))
array_written {a} {b} {c} {e} {ds} first h last = record {
  written = subst (λ (ts : List Token). AppendsTokens a e (begin_array ∷ ts)) (items_closed ds) (and_then first (and_then h.written last));
  again = ap (option_map array) (items_again ds h.again);
}

-- ---- the whole

tokens_are : {a z : Written} {d : Data} → a.tokens ≡ [] → AppendsValue a z d → z.tokens ≡ tokens_of d
tokens_are {a} {z} {d} none h = h.written.tokens ∙ ap (λ (ts : List Token). ts ++ tokens_of d) none

printed : {a z : Written} {d : Data} (bytes : List ℕ) → a.before ≡ [] → AppendsValue a z d → bytes ≡ z.before ++ print z.tokens → bytes ≡ print z.tokens
printed {a} {z} {d} bytes empty h is = is ∙ ap (λ (b : List ℕ). b ++ print z.tokens) (h.written.before ∙ empty)

-- the bytes that a writer has, which began with none, are the text of the value that was written
pub text_written : {a z : Written} {d : Data} (bytes : List ℕ) → a.before ≡ [] → a.tokens ≡ [] → AppendsValue a z d → bytes ≡ z.before ++ print z.tokens → bytes ≡ compact_text d
text_written {a} {z} {d} bytes empty none h is = printed bytes empty h is ∙ ap print (tokens_are none h) ∙ print-outline d

mutual
  outline_depth : (d : Data) → tree.depth (outline d) ≡ depth d
  outline_depth null = refl
  outline_depth (boolean b) = refl
  outline_depth (number n) = refl
  outline_depth (string s) = refl
  outline_depth (array ds) = ap suc (items_outline_depth ds)
  outline_depth (object ms) = ap suc (members_outline_depth ms)

  items_outline_depth : (ds : Items) → tree.items_depth (items_outline ds) ≡ items_depth ds
  items_outline_depth no_items = refl
  items_outline_depth (item d ds) = rw (outline_depth d, items_outline_depth ds) refl

  members_outline_depth : (ms : Members) → tree.members_depth (members_outline ms) ≡ members_depth ms
  members_outline_depth no_members = refl
  members_outline_depth (member k d ms) = rw (outline_depth d, members_outline_depth ms) refl

abbrev whole : Option (json.Json × List Token) → Option Data
whole o = option_and_then of_json (option_and_then (λ p. json.if_last p.0 p.1) o)

-- and this value is what the bytes are as JSON
pub json_written : {a z : Written} {d : Data} (bytes : List ℕ) → a.before ≡ [] → a.tokens ≡ [] → AppendsValue a z d → bytes ≡ z.before ++ print z.tokens
    → tokens (print z.tokens) ≡ z.tokens → IsUtf8 (print z.tokens) → depth d ≤ max_depth → json_of bytes ≡ Some d
json_written {a} {z} {d} bytes empty none h is back utf8 shallow =
    let text = printed bytes empty h is in
    let found : tokens bytes ≡ tokens_of d ++ [] = ap tokens text ∙ back ∙ tokens_are none h ∙ sym (append-nil (tokens_of d)) in
    let flat : tree.depth (outline d) ≤ max_depth = omega (arith, outline_depth d) in
    json_of-text bytes (subst IsUtf8 (sym text) utf8)
    ∙ ap whole (ap (json.value max_depth) found ∙ value-json_tokens (outline d) max_depth [] flat) ∙ h.again
