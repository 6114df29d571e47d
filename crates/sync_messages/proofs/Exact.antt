-- An object whose keys ascend, and which has some keys and no others, is the object of these keys and their values.
use Rattle.std.proofs.Common.{◌≡◌, ◌∙◌, ℕ, List, [], ◌∷◌, Bool, true, false, Option, Some, None, refl, sym, ap, subst}
use Rattle.std.proofs.Common.{Ordering, Less, Equal, Greater}
use Rattle.std.specs.Prelude.{◌&&◌, ◌||◌}
use Rattle.std.specs.List.{AllByRecursion, list_any}
use Rattle.std.specs.List.Sorted.{IsStrictlySortedBy}
use Rattle.std.specs.Str.{bytes_eq}
use Rattle.std.specs.Ordering.{nat_cmp, match_ordering, ordering_reverse, is_eq}
use Rattle.std.specs.Cmp.Lexicographic.{slice_cmp}
use Rattle.std.proofs.lemmas.Cmp.{nat_list_cmp_total}
use Rattle.std.proofs.lemmas.Map.Text.{is_eq-slice_cmp}
use Rattle.serde_json.specs.Data.{Data, Items, no_items, item, Members, no_members, member}
use Rattle.serde_json.specs.Data as json
use Rattle.serde_json.specs.Find.{get, get_member}
use Rattle.json_words.specs.Ascending.{Ascend, member_keys, DataAscends, ItemsAscend, MembersAscend}
use Rattle.json_words.specs.Each.{list_of}
use Rattle.json_words.specs.Keys.{keys_within, has_only}
use Rattle.sync_messages.proofs.Steps.{some_is, none_some, true_false, bytes_same}

abbrev cmp : List ℕ → List ℕ → Ordering
cmp = slice_cmp nat_cmp

abbrev IsBelow : List ℕ → List (List ℕ) → Type 0
IsBelow k ks = AllByRecursion (λ l. cmp k l ≡ Less) ks

below_all : (k l : List ℕ) (ks : List (List ℕ)) → cmp k l ≡ Less → IsBelow l ks → IsBelow k ks
below_all k l [] lt h = tt
below_all k l (m ∷ ks) lt h = (nat_list_cmp_total.trans k l m lt h.0, below_all k l ks lt h.1)

turned : (k l : List ℕ) (o : Ordering) → cmp k l ≡ o → cmp l k ≡ ordering_reverse o
turned k l o e = nat_list_cmp_total.antisymm l k ∙ ap ordering_reverse e

equal_is : (k l : List ℕ) → cmp k l ≡ Equal → k ≡ l
equal_is k l e = bytes_same k l (sym (is_eq-slice_cmp k l) ∙ ap is_eq e)

-- a key above another is another
other_key : (k l : List ℕ) → cmp k l ≡ Less → bytes_eq l k ≡ false
other_key k l lt = sym (is_eq-slice_cmp l k) ∙ ap is_eq (turned k l Less lt)

below_other : (k l : List ℕ) → cmp k l ≡ Less → bytes_eq k l ≡ false
below_other k l lt = sym (is_eq-slice_cmp k l) ∙ ap is_eq lt

-- ---- a key below all others

none_below : (k : List ℕ) (ms : Members) → IsBelow k (member_keys ms) → get_member k ms ≡ None
none_below k no_members h = refl
none_below k (member l e ms) h = ap (λ (o : Ordering). match_ordering o (get_member k ms) (Some e) (get_member k ms)) h.0 ∙ none_below k ms h.1

none_among : (l : List ℕ) (keys : List (List ℕ)) → IsBelow l keys → list_any (λ a. bytes_eq a l) keys ≡ false
none_among l [] h = refl
none_among l (k ∷ keys) h = ap (λ (b : Bool). b || list_any (λ a. bytes_eq a l) keys) (other_key l k h.0) ∙ none_among l keys h.1

left : (a b : Bool) → (a && b) ≡ true → a ≡ true
left true b h = refl
left false b h = absurd cc

right : (a b : Bool) → (a && b) ≡ true → b ≡ true
right true b h = h
right false b h = absurd cc

both : (a b : Bool) → a ≡ true → b ≡ true → (a && b) ≡ true
both true b p q = q
both false b p q = absurd cc

within_rest : (k : List ℕ) (keys : List (List ℕ)) (ms : Members) → IsBelow k (member_keys ms) → keys_within (k ∷ keys) ms ≡ true → keys_within keys ms ≡ true
within_rest k keys no_members h w = refl
within_rest k keys (member l e ms) h w =
    let first = left (list_any (λ a. bytes_eq a l) (k ∷ keys)) (keys_within (k ∷ keys) ms) w in
    let rest = right (list_any (λ a. bytes_eq a l) (k ∷ keys)) (keys_within (k ∷ keys) ms) w in
    let here : list_any (λ a. bytes_eq a l) keys ≡ true = ap (λ (b : Bool). b || list_any (λ a. bytes_eq a l) keys) (sym (below_other k l h.0)) ∙ first in
    both (list_any (λ a. bytes_eq a l) keys) (keys_within keys ms) here (within_rest k keys ms h.1 rest)

-- ---- keys with their values

abbrev pub Pair : Type 0
Pair = List ℕ × Data

abbrev pub keys_of : List Pair → List (List ℕ)
keys_of [] = []
keys_of (p ∷ ps) = p.0 ∷ keys_of ps

abbrev pub members_of : List Pair → Members
members_of [] = no_members
members_of (p ∷ ps) = member p.0 p.1 (members_of ps)

abbrev Found : Members → List Pair → Type 0
Found ms ps = AllByRecursion (λ p. get_member p.0 ms ≡ Some p.1) ps

found_rest : (k : List ℕ) (e : Data) (ms : Members) (ps : List Pair) → IsBelow k (keys_of ps) → Found (member k e ms) ps → Found ms ps
found_rest k e ms [] h f = tt
found_rest k e ms (p ∷ ps) h f =
    (ap (λ (o : Ordering). match_ordering o (get_member p.0 ms) (Some e) (get_member p.0 ms)) (sym (turned k p.0 Less h.0)) ∙ f.0, found_rest k e ms ps h.1 f.1)

exact_by : (p : Pair) (ps : List Pair) (l : List ℕ) (e : Data) (ms : Members) → Ascend (p.0 ∷ keys_of ps) → Ascend (l ∷ member_keys ms) → keys_within (p.0 ∷ keys_of ps) (member l e ms) ≡ true
    → Found (member l e ms) (p ∷ ps)
    → (Ascend (keys_of ps) → Ascend (member_keys ms) → keys_within (keys_of ps) ms ≡ true → Found ms ps → ms ≡ members_of ps)
    → (o : Ordering) → cmp p.0 l ≡ o → member l e ms ≡ member p.0 p.1 (members_of ps)
unfolding IsStrictlySortedBy
exact_by p ps l e ms up asc w f more Less at =
    absurd (none_some p.1 (get_member p.0 (member l e ms)) (none_below p.0 (member l e ms) (at, below_all p.0 l (member_keys ms) at asc.0)) f.0)
exact_by p ps l e ms up asc w f more Equal at =
    let same : p.0 ≡ l = equal_is p.0 l at in
    let value : e ≡ p.1 = some_is e p.1 (ap (λ (o : Ordering). match_ordering o (get_member p.0 ms) (Some e) (get_member p.0 ms)) (sym at) ∙ f.0) in
    let below : IsBelow p.0 (member_keys ms) = subst (λ (k : List ℕ). IsBelow k (member_keys ms)) (sym same) asc.0 in
    let above : IsBelow l (keys_of ps) = subst (λ (k : List ℕ). IsBelow k (keys_of ps)) same up.0 in
    let rest = more up.1 asc.1 (within_rest p.0 (keys_of ps) ms below (right (list_any (λ a. bytes_eq a l) (p.0 ∷ keys_of ps)) (keys_within (p.0 ∷ keys_of ps) ms) w)) (found_rest l e ms ps above f.1) in
    λ i. member (sym same i) (value i) (rest i)
exact_by p ps l e ms up asc w f more Greater at =
    let lt : cmp l p.0 ≡ Less = turned p.0 l Greater at in
    absurd (true_false (list_any (λ a. bytes_eq a l) (p.0 ∷ keys_of ps)) (left (list_any (λ a. bytes_eq a l) (p.0 ∷ keys_of ps)) (keys_within (p.0 ∷ keys_of ps) ms) w)
    (none_among l (p.0 ∷ keys_of ps) (lt, below_all l p.0 (keys_of ps) lt up.0)))

exact : (ps : List Pair) (ms : Members) → Ascend (keys_of ps) → Ascend (member_keys ms) → keys_within (keys_of ps) ms ≡ true → Found ms ps → ms ≡ members_of ps
unfolding IsStrictlySortedBy
exact [] no_members up asc w f = refl
exact [] (member l e ms) up asc w f = absurd cc
exact (p ∷ ps) no_members up asc w f = absurd (none_some p.1 None refl f.0)
exact (p ∷ ps) (member l e ms) up asc w f = exact_by p ps l e ms up asc w f (exact ps ms) (cmp p.0 l) refl

abbrev AllFound : Data → List Pair → Type 0
AllFound d ps = AllByRecursion (λ p. get p.0 d ≡ Some p.1) ps

pub exact_object : (ps : List Pair) (d : Data) → Ascend (keys_of ps) → DataAscends d → has_only (keys_of ps) d ≡ true → AllFound d ps → d ≡ json.object (members_of ps)
exact_object ps json.null up asc w f = absurd cc
exact_object ps (json.boolean b) up asc w f = absurd cc
exact_object ps (json.number n) up asc w f = absurd cc
exact_object ps (json.string s) up asc w f = absurd cc
exact_object ps (json.array ds) up asc w f = absurd cc
exact_object ps (json.object ms) up asc w f = ap (λ (ns : Members). json.object ns) (exact ps ms up asc.0 w f)

-- ---- parts of JSON whose keys ascend

value_by : (k : List ℕ) (e : Data) (o : Ordering) (p : Option Data) (x : Data) → DataAscends e → ((y : Data) → p ≡ Some y → DataAscends y) → match_ordering o p (Some e) p ≡ Some x → DataAscends x
value_by k e Less p x here there at = there x at
value_by k e Equal p x here there at = subst DataAscends (some_is e x at) here
value_by k e Greater p x here there at = there x at

value_in : (k : List ℕ) (ms : Members) → MembersAscend ms → (x : Data) → get_member k ms ≡ Some x → DataAscends x
value_in k no_members h x at = absurd (none_some x None refl at)
value_in k (member l e ms) h x at = value_by k e (cmp k l) (get_member k ms) x h.0 (value_in k ms h.1) at

pub value_ascends : (k : List ℕ) (d : Data) → DataAscends d → (x : Data) → get k d ≡ Some x → DataAscends x
value_ascends k json.null h x at = absurd (none_some x None refl at)
value_ascends k (json.boolean b) h x at = absurd (none_some x None refl at)
value_ascends k (json.number n) h x at = absurd (none_some x None refl at)
value_ascends k (json.string s) h x at = absurd (none_some x None refl at)
value_ascends k (json.array ds) h x at = absurd (none_some x None refl at)
value_ascends k (json.object ms) h x at = value_in k ms h.1 x at

pub items_ascend : (ds : Items) → ItemsAscend ds → AllByRecursion DataAscends (list_of ds)
items_ascend no_items h = tt
items_ascend (item d ds) h = (h.0, items_ascend ds h.1)

-- ---- a key that an object does not have

not_by : (k l : List ℕ) (keys : List (List ℕ)) (e : Data) (o : Ordering) (p : Option Data) → cmp k l ≡ o → list_any (λ a. bytes_eq a k) keys ≡ false → list_any (λ a. bytes_eq a l) keys ≡ true
    → p ≡ None → match_ordering o p (Some e) p ≡ None
not_by k l keys e Less p at out among none = none
not_by k l keys e Equal p at out among none =
    absurd (true_false (list_any (λ a. bytes_eq a k) keys) (subst (λ (x : List ℕ). list_any (λ a. bytes_eq a x) keys ≡ true) (sym (equal_is k l at)) among) out)
not_by k l keys e Greater p at out among none = none

not_in : (k : List ℕ) (keys : List (List ℕ)) (ms : Members) → list_any (λ a. bytes_eq a k) keys ≡ false → keys_within keys ms ≡ true → get_member k ms ≡ None
not_in k keys no_members out w = refl
not_in k keys (member l e ms) out w =
    not_by k l keys e (cmp k l) (get_member k ms) refl out (left (list_any (λ a. bytes_eq a l) keys) (keys_within keys ms) w)
    (not_in k keys ms out (right (list_any (λ a. bytes_eq a l) keys) (keys_within keys ms) w))

pub not_there : (k : List ℕ) (keys : List (List ℕ)) (d : Data) → list_any (λ a. bytes_eq a k) keys ≡ false → has_only keys d ≡ true → get k d ≡ None
not_there k keys json.null out w = refl
not_there k keys (json.boolean b) out w = refl
not_there k keys (json.number n) out w = refl
not_there k keys (json.string s) out w = refl
not_there k keys (json.array ds) out w = refl
not_there k keys (json.object ms) out w = not_in k keys ms out w
