-- Arrays and objects that are written one element behind another, whatever the elements are: at each place it is told
-- what is left to be written, so that a loop carries one fact, and the closing bracket ends it.
use Rattle.std.proofs.Common.{◌≡◌, ◌∙◌, ℕ, ◌+◌, ◌<◌, ◌≤◌, List, [], ◌∷◌, ◌++◌, map, length, drop, get_or, Some, option_map, option_and_then, refl, sym, ap, subst, append_assoc}
use Rattle.std.proofs.lemmas.List.{drop_more, drop_all}
use Rattle.json.specs.Token.{Token, begin_array, end_array, begin_object, end_object, key}
use Rattle.json.specs.Tree.{items_tokens, members_tokens}
use Rattle.json.specs.Written.{Written}
use Rattle.serde_json.specs.Data.{Data, array, object, Items, no_items, item, Members, no_members, member, put}
use Rattle.serde_json.specs.Read.{of_items, of_members}
use Rattle.serde_json.specs.View.{items_of}
use Rattle.serde_json.specs.Written.{items_outline, members_outline}
use Rattle.entity_uids.specs.Tokens.{AppendsTokens, tokens_of, IsReadAgain, AppendsValue, AppendsMember}
use Rattle.entity_uids.proofs.Adding.{joined}

-- a member, by its key and its value
pub member_written : {a b c : Written} {k : List ℕ} {d : Data} → AppendsTokens a b (key k ∷ []) → AppendsValue b c d → AppendsMember a c k d
member_written named h = record { written = joined named h.written; again = h.again }

-- ---- objects

-- Of the members of an object those of `left` are still to be written. Who reads it has those of `found` by then.
pub record IsInObject (all left found : Members) (old new : Written) : Type 0 where
  pub before : new.before ≡ old.before
  pub tokens : new.tokens ++ members_tokens (members_outline left) ≡ old.tokens ++ tokens_of (object all)
  pub again : of_members (members_outline left) found ≡ Some all → IsReadAgain (object all)

pub object_begun : (all : Members) {old new : Written} → AppendsTokens old new (begin_object ∷ []) → IsInObject all all no_members old new
object_begun all {old} h =
    let rest : List Token = members_tokens (members_outline all) in
    record {
      before = h.before;
      tokens = ap (λ (ts : List Token). ts ++ rest) h.tokens ∙ append_assoc old.tokens (begin_object ∷ []) rest;
      again = λ read. ap (option_map object) read;
    }

pub member_next : {all : Members} (k : List ℕ) (d : Data) (ms : Members) {found more : Members} {old mid new : Written} → put k d found ≡ more
    → IsInObject all (member k d ms) found old mid → AppendsMember mid new k d → IsInObject all ms more old new
member_next {all} k d ms {found} {more} {old} {mid} {new} is h w =
    let rest : List Token = members_tokens (members_outline ms) in
    record {
      before = w.written.before ∙ h.before;
      tokens = ap (λ (ts : List Token). ts ++ rest) w.written.tokens ∙ append_assoc mid.tokens (key k ∷ tokens_of d) rest ∙ h.tokens;
      again = λ read. h.again (ap (option_and_then (λ e. of_members (members_outline ms) (put k e found))) w.again ∙ ap (of_members (members_outline ms)) is ∙ read);
    }

pub object_ended : {all found : Members} {old mid new : Written} → found ≡ all → IsInObject all no_members found old mid → AppendsTokens mid new (end_object ∷ []) → AppendsValue old new (object all)
object_ended same h last = record {
  written = record { before = last.before ∙ h.before; tokens = last.tokens ∙ h.tokens };
  again = h.again (ap (λ (ms : Members). Some ms) same);
}

-- ---- arrays

-- of the items of an array those of `left` are still to be written
pub record IsInArray (all left : Items) (old new : Written) : Type 0 where
  pub before : new.before ≡ old.before
  pub tokens : new.tokens ++ items_tokens (items_outline left) ≡ old.tokens ++ tokens_of (array all)
  pub again : of_items (items_outline left) ≡ Some left → IsReadAgain (array all)

pub array_begun : (all : Items) {old new : Written} → AppendsTokens old new (begin_array ∷ []) → IsInArray all all old new
array_begun all {old} h =
    let rest : List Token = items_tokens (items_outline all) in
    record {
      before = h.before;
      tokens = ap (λ (ts : List Token). ts ++ rest) h.tokens ∙ append_assoc old.tokens (begin_array ∷ []) rest;
      again = λ read. ap (option_map array) read;
    }

pub item_next : {all : Items} (d : Data) (ds : Items) {old mid new : Written} → IsInArray all (item d ds) old mid → AppendsValue mid new d → IsInArray all ds old new
item_next {all} d ds {old} {mid} {new} h w =
    let rest : List Token = items_tokens (items_outline ds) in
    record {
      before = w.written.before ∙ h.before;
      tokens = ap (λ (ts : List Token). ts ++ rest) w.written.tokens ∙ append_assoc mid.tokens (tokens_of d) rest ∙ h.tokens;
      again = λ read. h.again (ap (option_and_then (λ e. option_map (item e) (of_items (items_outline ds)))) w.again ∙ ap (option_map (item d)) read);
    }

pub array_ended : {all : Items} {old mid new : Written} → IsInArray all no_items old mid → AppendsTokens mid new (end_array ∷ []) → AppendsValue old new (array all)
array_ended h last = record {
  written = record { before = last.before ∙ h.before; tokens = last.tokens ∙ h.tokens };
  again = h.again refl;
}

-- ---- the array of a list

-- of the values that f makes of xs, those from the place i on are still to be written
abbrev pub IsInList : {X : Type 0} → (X → Data) → List X → ℕ → Written → Written → Type 0
IsInList f xs i old new = IsInArray (items_of (map f xs)) (items_of (map f (drop i xs))) old new

pub list_begun : {X : Type 0} (f : X → Data) (xs : List X) {old new : Written} → AppendsTokens old new (begin_array ∷ []) → IsInList f xs 0 old new
list_begun f xs h = array_begun (items_of (map f xs)) h

pub list_next : {X : Type 0} (f : X → Data) (xs : List X) (i : ℕ) (x : X) {old mid new : Written} → i < length xs → x ≡ get_or xs i x
    → IsInList f xs i old mid → AppendsValue mid new (f x) → IsInList f xs (i + 1) old new
list_next {X = X} f xs i x {old} {mid} lt at h w =
    let rest : List X = drop (i + 1) xs in
    let here : drop i xs ≡ x ∷ rest = drop_more xs i x lt ∙ ap (λ (y : X). y ∷ rest) (sym at) in
    item_next (f x) (items_of (map f rest)) (subst (λ (ys : List X). IsInArray (items_of (map f xs)) (items_of (map f ys)) old mid) here h) w

pub list_ended : {X : Type 0} (f : X → Data) (xs : List X) (i : ℕ) {old mid new : Written} → length xs ≤ i
    → IsInList f xs i old mid → AppendsTokens mid new (end_array ∷ []) → AppendsValue old new (array (items_of (map f xs)))
list_ended {X = X} f xs i {old} {mid} le h last =
    array_ended (subst (λ (ys : List X). IsInArray (items_of (map f xs)) (items_of (map f ys)) old mid) (drop_all i xs le) h) last
