-- The texts of JSON that was read are UTF-8. A quote, a backslash and all of an escape are ASCII, so what stands
-- between them is UTF-8 where the whole is.
use Rattle.std.proofs.Common.{◌≡◌, ℕ, zero, suc, inl, inr, List, [], ◌∷◌, length, Option, Some, None, option_map}
use Rattle.std.proofs.Common.{option_and_then, subst}
use Rattle.std.proofs.lemmas.Str.{IsUtf8-from_is_utf8}
use Rattle.std.specs.Bool.{⊤}
use Rattle.std.specs.Cmp.Lexicographic.{slice_cmp}
use Rattle.std.specs.Ordering.{match_ordering, nat_cmp}
use Rattle.std.specs.Str.{IsUtf8, is_utf8}
use Rattle.std.specs.declared.cmp.Ordering.{Ordering}
use Rattle.std.specs.declared.cmp.Ordering.TheVariants.{Less, Equal, Greater}
use Rattle.json.specs.Json as json
use Rattle.json.specs.Json.{Parse, parse_map, after_end_array, read_key, items_step, members_step, value_with}
use Rattle.json.specs.Lex.{tokens}
use Rattle.json.specs.Token as token
use Rattle.serde_json.specs.Data.{Data, null, boolean, number, string, array, object, Items, no_items, item, Members}
use Rattle.serde_json.specs.Data.{no_members, member, put}
use Rattle.serde_json.specs.Read.{of_json, of_items, of_members, number_of, read, max_depth}
use Rattle.json_words.specs.Json.{json_of}
use Rattle.entities.specs.Texts.{HasUtf8, HaveUtf8, MembersHaveUtf8}
use Rattle.entities.proofs.Utf8Strings.{some, some_same, mapped, followed, branches}
use Rattle.entities.proofs.Utf8Tokens.{TokensUtf8, tokens_utf8}

-- ---- values

abbrev mutual
  JsonUtf8 : json.Json → Type 0
  JsonUtf8 json.null = ⊤
  JsonUtf8 (json.boolean b) = ⊤
  JsonUtf8 (json.number s) = ⊤
  JsonUtf8 (json.string s) = IsUtf8 s
  JsonUtf8 (json.array js) = ItemsUtf8 js
  JsonUtf8 (json.object js) = MembersUtf8 js

  ItemsUtf8 : json.Items → Type 0
  ItemsUtf8 json.no_items = ⊤
  ItemsUtf8 (json.item j js) = JsonUtf8 j × ItemsUtf8 js

  MembersUtf8 : json.Members → Type 0
  MembersUtf8 json.no_members = ⊤
  MembersUtf8 (json.member k j js) = IsUtf8 k × JsonUtf8 j × MembersUtf8 js

-- what was read has P, and the tokens behind it are UTF-8
abbrev Gave : {A : Type 0} → (A → Type 0) → Option (A × List token.Token) → Type 0
Gave P None = ⊤
Gave P (Some r) = P r.0 × TokensUtf8 r.1

abbrev Reads : {A : Type 0} → (A → Type 0) → Parse A → Type 0
Reads P parse = (ts : List token.Token) → TokensUtf8 ts → Gave P (parse ts)

map_gave : {A B : Type 0} (P : A → Type 0) (Q : B → Type 0) (f : A → B) (o : Option (A × List token.Token))
    → ((a : A) → P a → Q (f a)) → Gave P o → Gave Q (parse_map f o)
map_gave P Q f None step g = tt
map_gave P Q f (Some p) step g = (step p.0 g.0, g.1)

then_gave : {A B : Type 0} (P : A → Type 0) (Q : B → Type 0) (f : A × List token.Token → Option (B × List token.Token))
    (o : Option (A × List token.Token)) → Gave P o
    → ((a : A) (ts : List token.Token) → P a → TokensUtf8 ts → Gave Q (f (a, ts))) → Gave Q (option_and_then f o)
then_gave P Q f None g step = tt
then_gave P Q f (Some p) g step = step p.0 p.1 g.0 g.1

abbrev RestUtf8 : Option (List token.Token) → Type 0
RestUtf8 None = ⊤
RestUtf8 (Some ts) = TokensUtf8 ts

end_gave : (ts : List token.Token) → TokensUtf8 ts → RestUtf8 (after_end_array ts)
end_gave [] h = tt
end_gave (token.begin_object ∷ ts) h = tt
end_gave (token.end_object ∷ ts) h = tt
end_gave (token.begin_array ∷ ts) h = tt
end_gave (token.end_array ∷ ts) h = h.1
end_gave (token.key s ∷ ts) h = tt
end_gave (token.string s ∷ ts) h = tt
end_gave (token.number s ∷ ts) h = tt
end_gave (token.boolean b ∷ ts) h = tt
end_gave (token.null ∷ ts) h = tt
end_gave (token.bad ∷ ts) h = tt

abbrev KeyUtf8 : Option (List ℕ) → Type 0
KeyUtf8 None = ⊤
KeyUtf8 (Some k) = IsUtf8 k

key_gave : Reads KeyUtf8 read_key
key_gave [] h = tt
key_gave (token.begin_object ∷ ts) h = tt
key_gave (token.end_object ∷ ts) h = h
key_gave (token.begin_array ∷ ts) h = tt
key_gave (token.end_array ∷ ts) h = tt
key_gave (token.key s ∷ ts) h = h
key_gave (token.string s ∷ ts) h = tt
key_gave (token.number s ∷ ts) h = tt
key_gave (token.boolean b ∷ ts) h = tt
key_gave (token.null ∷ ts) h = tt
key_gave (token.bad ∷ ts) h = tt

item_gave : (value : Parse json.Json) (more : Parse json.Items) → Reads JsonUtf8 value → Reads ItemsUtf8 more
    → (ts : List token.Token) → TokensUtf8 ts → (o : Option (List token.Token)) → RestUtf8 o
    → Gave ItemsUtf8 (items_step value more ts o)
item_gave value more v m ts h (Some rest) g = (tt, g)
item_gave value more v m ts h None g =
    then_gave JsonUtf8 ItemsUtf8 (λ p. parse_map (json.item p.0) (more p.1)) (value ts) (v ts h)
    (λ j us one rest. map_gave ItemsUtf8 ItemsUtf8 (json.item j) (more us) (λ js all. (one, all)) (m us rest))

items_gave : (value : Parse json.Json) → Reads JsonUtf8 value → (n : ℕ) → Reads ItemsUtf8 (json.items value n)
unfolding json.items
items_gave value v zero ts h = tt
items_gave value v (suc n) ts h =
    item_gave value (json.items value n) v (items_gave value v n) ts h (after_end_array ts) (end_gave ts h)

member_gave : (value : Parse json.Json) (more : Parse json.Members) → Reads JsonUtf8 value → Reads MembersUtf8 more
    → (k : Option (List ℕ)) → KeyUtf8 k → Reads MembersUtf8 (members_step value more k)
member_gave value more v m None u ts h = (tt, h)
member_gave value more v m (Some k) u ts h =
    then_gave JsonUtf8 MembersUtf8 (λ p. parse_map (json.member k p.0) (more p.1)) (value ts) (v ts h)
    (λ j us one rest.
    map_gave MembersUtf8 MembersUtf8 (json.member k j) (more us) (λ js all. (u, one, all)) (m us rest))

members_gave : (value : Parse json.Json) → Reads JsonUtf8 value → (n : ℕ) → Reads MembersUtf8 (json.members value n)
unfolding json.members
members_gave value v zero ts h = tt
members_gave value v (suc n) ts h =
    let more = json.members value n in
    then_gave KeyUtf8 MembersUtf8 (λ p. members_step value more p.0 p.1) (read_key ts) (key_gave ts h)
    (λ k us one rest. member_gave value more v (members_gave value v n) k one us rest)

with_gave : (a : Parse json.Items) (o : Parse json.Members) → Reads ItemsUtf8 a → Reads MembersUtf8 o
    → Reads JsonUtf8 (value_with a o)
with_gave a o u v [] h = tt
with_gave a o u v (token.begin_object ∷ ts) h =
    map_gave MembersUtf8 JsonUtf8 json.object (o ts) (λ js all. all) (v ts h.1)
with_gave a o u v (token.end_object ∷ ts) h = tt
with_gave a o u v (token.begin_array ∷ ts) h =
    map_gave ItemsUtf8 JsonUtf8 json.array (a ts) (λ js all. all) (u ts h.1)
with_gave a o u v (token.end_array ∷ ts) h = tt
with_gave a o u v (token.key s ∷ ts) h = tt
with_gave a o u v (token.string s ∷ ts) h = h
with_gave a o u v (token.number s ∷ ts) h = h
with_gave a o u v (token.boolean b ∷ ts) h = h
with_gave a o u v (token.null ∷ ts) h = h
with_gave a o u v (token.bad ∷ ts) h = tt

value_gave : (depth : ℕ) → Reads JsonUtf8 (json.value depth)
unfolding json.value
value_gave zero = with_gave (λ ts. None) (λ ts. None) (λ ts h. tt) (λ ts h. tt)
value_gave (suc depth) =
    let inner = json.value depth in
    with_gave (λ ts. json.items inner (length ts) ts) (λ ts. json.members inner (length ts) ts)
    (λ ts h. items_gave inner (value_gave depth) (length ts) ts h)
    (λ ts h. members_gave inner (value_gave depth) (length ts) ts h)

-- ---- what is made of them

put_utf8 : (k : List ℕ) (d : Data) (ms : Members) → IsUtf8 k → HasUtf8 d → MembersHaveUtf8 ms
    → MembersHaveUtf8 (put k d ms)
put_utf8 k d no_members u one h = (u, one, tt)
put_utf8 k d (member l e ms) u one h = by (slice_cmp nat_cmp k l) (put_utf8 k d ms u one h.2)
  where
    by : (r : Ordering) → MembersHaveUtf8 (put k d ms)
        → MembersHaveUtf8 (match_ordering r (member k d (member l e ms)) (member l d ms) (member l e (put k d ms)))
    by Less rest = (u, one, h)
    by Equal rest = (h.0, one, h.2)
    by Greater rest = (h.0, h.1, rest)

mutual
  json_utf8 : (j : json.Json) (d : Data) → JsonUtf8 j → of_json j ≡ some d → HasUtf8 d
  json_utf8 json.null d u e = subst HasUtf8 (some_same null d e) tt
  json_utf8 (json.boolean b) d u e = subst HasUtf8 (some_same (boolean b) d e) tt
  json_utf8 (json.number s) d u e = let m = mapped number (number_of s) d e in subst HasUtf8 m.2 tt
  json_utf8 (json.string s) d u e = subst HasUtf8 (some_same (string s) d e) u
  json_utf8 (json.array js) d u e =
      let m = mapped array (of_items js) d e in subst HasUtf8 m.2 (items_utf8 js m.0 u m.1)
  json_utf8 (json.object js) d u e =
      let m = mapped object (of_members js no_members) d e in
      subst HasUtf8 m.2 (members_utf8 js no_members m.0 u tt m.1)

  items_utf8 : (js : json.Items) (ds : Items) → ItemsUtf8 js → of_items js ≡ some ds → HaveUtf8 ds
  items_utf8 json.no_items ds u e = subst HaveUtf8 (some_same no_items ds e) tt
  items_utf8 (json.item j js) ds u e =
      let a = followed (λ d. option_map (item d) (of_items js)) (of_json j) ds e in
      let m = mapped (item a.0) (of_items js) ds a.2 in
      subst HaveUtf8 m.2 (json_utf8 j a.0 u.0 a.1, items_utf8 js m.0 u.1 m.1)

  members_utf8 : (js : json.Members) (old new : Members) → MembersUtf8 js → MembersHaveUtf8 old
      → of_members js old ≡ some new → MembersHaveUtf8 new
  members_utf8 json.no_members old new u h e = subst MembersHaveUtf8 (some_same old new e) h
  members_utf8 (json.member k j js) old new u h e =
      let a = followed (λ d. of_members js (put k d old)) (of_json j) new e in
      members_utf8 js (put k a.0 old) new u.2 (put_utf8 k a.0 old u.0 (json_utf8 j a.0 u.1 a.1) h) a.2

last_same : (j : json.Json) (ts : List token.Token) (k : json.Json) → json.if_last j ts ≡ some k → j ≡ k
last_same j [] k e = some_same j k e
last_same j (t ∷ ts) k e = absurd cc

read_utf8 : (bytes : List ℕ) (d : Data) → IsUtf8 bytes → read bytes ≡ some d → HasUtf8 d
read_utf8 bytes d u e =
    let parsed = json.value max_depth (tokens bytes) in
    let a = followed of_json (option_and_then (λ p. json.if_last p.0 p.1) parsed) d e in
    let p = followed (λ p. json.if_last p.0 p.1) parsed a.0 a.1 in
    let gave = subst (Gave JsonUtf8) p.1 (value_gave max_depth (tokens bytes) (tokens_utf8 bytes u)) in
    json_utf8 a.0 d (subst JsonUtf8 (last_same p.0.0 p.0.1 a.0 p.2) gave.0) a.2

pub json_texts_are_utf8 : (bytes : List ℕ) (d : Data) → json_of bytes ≡ some d → HasUtf8 d
unfolding json_of
json_texts_are_utf8 bytes d e = elim (branches (is_utf8 bytes) (read bytes) None d e) [
  | inl h ↦ read_utf8 bytes d (IsUtf8-from_is_utf8 bytes h.0) h.1
  | inr h ↦ absurd cc
]
