-- The keys of each object that was read from JSON ascend.
use Rattle.std.proofs.Common.{◌≡◌, ◌∙◌, ℕ, List, [], ◌∷◌, Bool, true, false, cond, Option, Some, None, option_map, option_and_then, refl, ap, subst}
use Rattle.std.specs.List.{AllByRecursion}
use Rattle.std.specs.List.Sorted.{IsStrictlySortedBy}
use Rattle.std.specs.Ordering.{match_ordering, ordering_reverse}
use Rattle.std.specs.Str.{is_utf8}
use Rattle.std.specs.declared.cmp.Ordering.{Ordering}
use Rattle.std.specs.declared.cmp.Ordering.TheVariants.{Less, Equal, Greater}
use Rattle.json.specs.Json as json
use Rattle.json.specs.Lex.{tokens}
use Rattle.serde_json.specs.Data.{Data, null, boolean, number, string, array, object, Items, no_items, item, Members, no_members, member, put}
use Rattle.serde_json.specs.Read.{of_json, of_items, of_members, number_of, read, max_depth}
use Rattle.json_words.specs.Json.{json_of}
use Rattle.std.specs.Cmp.{IsTotalOrder}
use Rattle.std.specs.Cmp.Lexicographic.{slice_cmp}
use Rattle.std.specs.Ordering.{nat_cmp}
use Rattle.std.proofs.lemmas.Cmp.{nat_list_cmp_total}
use Rattle.json_words.specs.Ascending.{Ascend, member_keys, DataAscends, ItemsAscend, MembersAscend}

abbrev text_cmp : List ℕ → List ℕ → Ordering
text_cmp = slice_cmp nat_cmp

text_cmp-IsTotalOrder : IsTotalOrder text_cmp
text_cmp-IsTotalOrder = nat_list_cmp_total

abbrev some : {A : Type 0} → A → Option A
some x = Some x

some_same : {A : Type 0} (x y : A) → some x ≡ some y → x ≡ y
some_same x y e = cc

-- ---- a member more

abbrev IsAncestor : List ℕ → List (List ℕ) → Type 0
IsAncestor k ks = AllByRecursion (λ l. text_cmp k l ≡ Less) ks

above_put : (x k : List ℕ) (d : Data) (ms : Members) → text_cmp x k ≡ Less → IsAncestor x (member_keys ms) → IsAncestor x (member_keys (put k d ms))
above_put x k d no_members lt h = (lt, tt)
above_put x k d (member l e ms) lt h = by (text_cmp k l) (above_put x k d ms lt h.1)
  where
    by : (r : Ordering) → IsAncestor x (member_keys (put k d ms)) → IsAncestor x (member_keys (match_ordering r (member k d (member l e ms)) (member l d ms) (member l e (put k d ms))))
    by Less rest = (lt, h)
    by Equal rest = h
    by Greater rest = (h.0, rest)

below_all : (k l : List ℕ) (ks : List (List ℕ)) → text_cmp k l ≡ Less → IsAncestor l ks → IsAncestor k ks
below_all k l [] lt h = tt
below_all k l (m ∷ ks) lt h = (text_cmp-IsTotalOrder.trans k l m lt h.0, below_all k l ks lt h.1)

turned : (k l : List ℕ) → text_cmp k l ≡ Greater → text_cmp l k ≡ Less
turned k l e = text_cmp-IsTotalOrder.antisymm l k ∙ ap ordering_reverse e

ascend_put : (k : List ℕ) (d : Data) (ms : Members) → Ascend (member_keys ms) → Ascend (member_keys (put k d ms))
unfolding IsStrictlySortedBy
ascend_put k d no_members h = (tt, tt)
ascend_put k d (member l e ms) h = by (text_cmp k l) refl (ascend_put k d ms h.1)
  where
    by : (r : Ordering) → text_cmp k l ≡ r → Ascend (member_keys (put k d ms)) → Ascend (member_keys (match_ordering r (member k d (member l e ms)) (member l d ms) (member l e (put k d ms))))
    by Less is rest = ((is, below_all k l (member_keys ms) is h.0), h)
    by Equal is rest = h
    by Greater is rest = (above_put l k d ms (turned k l is) h.0, rest)

members_put : (k : List ℕ) (d : Data) (ms : Members) → DataAscends d → MembersAscend ms → MembersAscend (put k d ms)
members_put k d no_members one h = (one, tt)
members_put k d (member l e ms) one h = by (text_cmp k l) (members_put k d ms one h.1)
  where
    by : (r : Ordering) → MembersAscend (put k d ms) → MembersAscend (match_ordering r (member k d (member l e ms)) (member l d ms) (member l e (put k d ms)))
    by Less rest = (one, h)
    by Equal rest = (one, h.1)
    by Greater rest = (h.0, rest)

-- ---- what was read

mapped : {A B : Type 0} (f : A → B) (o : Option A) (y : B) → option_map f o ≡ some y → (x : A) × (o ≡ some x) × (f x ≡ y)
mapped f None y e = absurd cc
mapped f (Some x) y e = (x, refl, some_same (f x) y e)

followed : {A B : Type 0} (f : A → Option B) (o : Option A) (y : B) → option_and_then f o ≡ some y → (x : A) × (o ≡ some x) × (f x ≡ some y)
followed f None y e = absurd cc
followed f (Some x) y e = (x, refl, e)

abbrev Both : Members → Type 0
Both ms = Ascend (member_keys ms) × MembersAscend ms

none_ascend : Ascend []
unfolding IsStrictlySortedBy
none_ascend = tt

mutual
  json_ascends : (j : json.Json) (d : Data) → of_json j ≡ some d → DataAscends d
  json_ascends json.null d e = subst DataAscends (some_same null d e) tt
  json_ascends (json.boolean b) d e = subst DataAscends (some_same (boolean b) d e) tt
  json_ascends (json.number s) d e = let m = mapped number (number_of s) d e in subst DataAscends m.2 tt
  json_ascends (json.string s) d e = subst DataAscends (some_same (string s) d e) tt
  json_ascends (json.array js) d e = let m = mapped array (of_items js) d e in subst DataAscends m.2 (items_ascend js m.0 m.1)
  json_ascends (json.object js) d e = let m = mapped object (of_members js no_members) d e in subst DataAscends m.2 (members_ascend js no_members m.0 (none_ascend, tt) m.1)

  items_ascend : (js : json.Items) (ds : Items) → of_items js ≡ some ds → ItemsAscend ds
  items_ascend json.no_items ds e = subst ItemsAscend (some_same no_items ds e) tt
  items_ascend (json.item j js) ds e =
      let a = followed (λ d. option_map (item d) (of_items js)) (of_json j) ds e in
      let m = mapped (item a.0) (of_items js) ds a.2 in
      subst ItemsAscend m.2 (json_ascends j a.0 a.1, items_ascend js m.0 m.1)

  members_ascend : (js : json.Members) (old new : Members) → Both old → of_members js old ≡ some new → Both new
  members_ascend json.no_members old new h e = subst Both (some_same old new e) h
  members_ascend (json.member k j js) old new h e =
      let a = followed (λ d. of_members js (put k d old)) (of_json j) new e in
      members_ascend js (put k a.0 old) new (ascend_put k a.0 old h.0, members_put k a.0 old (json_ascends j a.0 a.1) h.1) a.2

when_utf8 : (b : Bool) (o : Option Data) (d : Data) → cond b o None ≡ some d → o ≡ some d
when_utf8 true o d e = e
when_utf8 false o d e = absurd cc

pub json_keys_ascend : (bytes : List ℕ) (d : Data) → json_of bytes ≡ some d → DataAscends d
unfolding json_of
json_keys_ascend bytes d e =
    let a = followed of_json (option_and_then (λ p. json.if_last p.0 p.1) (json.value max_depth (tokens bytes))) d (when_utf8 (is_utf8 bytes) (read bytes) d e) in
    json_ascends a.0 d a.2
