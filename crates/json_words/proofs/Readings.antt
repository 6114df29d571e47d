-- Reading the members of an array as a loop does that has those behind it still to come.
use Rattle.std.proofs.Common.{◌≡◌, ◌∙◌, ℕ, ◌+◌, ◌<◌, List, [], ◌∷◌, ◌++◌, length, take, Option, Some, None, option_map, MatchOption, Result, Ok, Err, refl, sym, ap, subst, arith, append_assoc, append-nil, take_at, length-append}
use Rattle.std.specs.Prelude.{is_some}
use Rattle.serde_json.specs.Data.{Data, Items}
use Rattle.serde_json.specs.Find.{as_array}
use Rattle.serde_json.specs.View.{view}
use Rattle.serde_json.specs.declared.value.Value.{Value}
use Rattle.json_words.specs.Each.{each, list_of}
use Rattle.json_words.specs.ReadsAs.{◌>>=◌, or_fault, Fails}
use Rattle.json_words.proofs.EachLemmas.{each_push, each_refused}
use Rattle.json_words.specs.declared.array_members.ArrayMembers.{ArrayMembers}
use Rattle.json_words.specs.declared.array_members.Member.{Member}
use Rattle.json_words.specs.declared.array_members.Member.TheVariants as variant
use Rattle.json_words.specs.Arrays.{members_in, array_of, unread_members, each_of, reported_error, IsNextMember, IsFewer}

-- ---- the members of an array, read as its items

items_of : {B F : Type 0} (none : F) (f : List Data → ℕ → Data → Result B F) (ds : Option Items)
    → (or_fault none ds >>= λ items. each (f (list_of items)) 0 (list_of items)) ≡ each_of none f (option_map list_of ds)
items_of none f None = refl
items_of none f (Some ds) = refl

pub items_read : {B F : Type 0} (none : F) (f : List Data → ℕ → Data → Result B F) (d : Option Data)
    → (or_fault none d >>= λ value. or_fault none (as_array value) >>= λ items. each (f (list_of items)) 0 (list_of items)) ≡ each_of none f (members_in d)
items_read none f None = refl
items_read none f (Some d) = items_of none f (as_array d)

-- ---- where an array begins

abbrev pub Begins : List ℕ → Option ArrayMembers → Type 0
Begins bytes begun = MatchOption begun (array_of bytes ≡ None) (λ members. array_of bytes ≡ unread_members members)

pub array_begun : (bytes : List ℕ) (begun : Option ArrayMembers) (members : ArrayMembers) → begun ≡ Some members → Begins bytes begun → array_of bytes ≡ unread_members members
array_begun bytes begun members is h = subst (Begins bytes) is h

pub none_begun : (bytes : List ℕ) (begun : Option ArrayMembers) → begun ≡ None → Begins bytes begun → array_of bytes ≡ None
none_begun bytes begun is h = subst (Begins bytes) is h

-- ---- what is read next

pub value_told : (m : Member) (v : Value) (ahead behind : Option (List Data)) → m ≡ variant.Value v → IsNextMember m ahead behind → ahead ≡ option_map (λ ds. view v ∷ ds) behind
value_told m v ahead behind is h = subst (λ (x : Member). IsNextMember x ahead behind) is h

pub fewer_left : (m : Member) (v : Value) (ahead behind : ℕ) → m ≡ variant.Value v → IsFewer m ahead behind → behind < ahead
fewer_left m v ahead behind is h = subst (λ (x : Member). IsFewer x ahead behind) is h

pub end_told : (m : Member) (ahead behind : Option (List Data)) → m ≡ variant.End → IsNextMember m ahead behind → ahead ≡ Some []
end_told m ahead behind is h = subst (λ (x : Member). IsNextMember x ahead behind) is h

pub not_json_told : (m : Member) (ahead behind : Option (List Data)) → m ≡ variant.NotJson → IsNextMember m ahead behind → ahead ≡ None
not_json_told m ahead behind is h = subst (λ (x : Member). IsNextMember x ahead behind) is h

pub is_some-map : {A B : Type 0} (f : A → B) (o : Option A) → is_some (option_map f o) ≡ is_some o
is_some-map f None = refl
is_some-map f (Some x) = refl

-- ---- some of the members were read

-- The members seen were read as ys, whatever stands behind them; `left` is what is to come of all.
pub record SoFar {B F : Type 0} (f : List Data → ℕ → Data → Result B F) (all left : Option (List Data)) (place : ℕ) (ys : List B) : Type 0 where
  pub seen : List Data
  pub placed : length seen ≡ place
  pub cut : all ≡ option_map (λ ds. seen ++ ds) left
  pub read : (rest : List Data) → each (f (seen ++ rest)) 0 seen ≡ Ok ys

behind_nothing : (o : Option (List Data)) → o ≡ option_map (λ ds. [] ++ ds) o
behind_nothing None = refl
behind_nothing (Some ds) = refl

pub begins : {B F : Type 0} (f : List Data → ℕ → Data → Result B F) (all : Option (List Data)) → SoFar f all all 0 []
unfolding each
begins f all = record {
  seen = [];
  placed = refl;
  cut = behind_nothing all;
  read = λ rest. refl;
}

pushed : (seen : List Data) (d : Data) (o : Option (List Data)) → option_map (λ ds. seen ++ ds) (option_map (λ ds. d ∷ ds) o) ≡ option_map (λ ds. (seen ++ d ∷ []) ++ ds) o
pushed seen d None = refl
pushed seen d (Some ds) = ap (λ xs. Some xs) (sym (append_assoc seen (d ∷ []) ds))

at_place : {B F : Type 0} (f : ℕ → Data → Result B F) (seen : List Data) (place : ℕ) (d : Data) (r : Result B F) → length seen ≡ place → f place d ≡ r → f (0 + length seen) d ≡ r
at_place f seen place d r placed is = ap (λ k. f k d) (let same : 0 + length seen ≡ place = omega (arith, placed) in same) ∙ is

-- one more was read
pub goes_on : {B F : Type 0} (f : List Data → ℕ → Data → Result B F) (all before behind : Option (List Data)) (place : ℕ) (ys : List B) (d : Data) (y : B)
    → (s : SoFar f all before place ys) → before ≡ option_map (λ ds. d ∷ ds) behind → ((rest : List Data) → f (s.seen ++ d ∷ rest) place d ≡ Ok y)
    → SoFar f all behind (place + 1) (ys ++ y ∷ [])
goes_on {B = B} f all before behind place ys d y s next one = record {
  seen = s.seen ++ d ∷ [];
  placed = let long : length (s.seen ++ d ∷ []) ≡ length s.seen + length (d ∷ []) = length-append s.seen (d ∷ []) in omega (arith, long, s.placed);
  cut = s.cut ∙ ap (option_map (λ ds. s.seen ++ ds)) next ∙ pushed s.seen d behind;
  read = λ rest. ap (λ (ds : List Data). each (f ds) 0 (s.seen ++ d ∷ [])) (append_assoc s.seen (d ∷ []) rest)
      ∙ each_push (f (s.seen ++ d ∷ rest)) 0 s.seen ys d y (s.read (d ∷ rest)) (at_place (f (s.seen ++ d ∷ rest)) s.seen place d (Ok y) s.placed (one rest));
}

-- all were read
pub ends : {B F : Type 0} (none : F) (f : List Data → ℕ → Data → Result B F) (all left : Option (List Data)) (place : ℕ) (ys : List B)
    → SoFar f all left place ys → left ≡ Some [] → each_of none f all ≡ Ok ys
ends none f all left place ys s last =
    ap (each_of none f) (s.cut ∙ ap (option_map (λ ds. s.seen ++ ds)) last) ∙ ap (λ (ds : List Data). each (f (s.seen ++ [])) 0 ds) (append-nil s.seen) ∙ s.read []

-- the text turned out to be no JSON
pub fails : {B F : Type 0} (none : F) (f : List Data → ℕ → Data → Result B F) (all left : Option (List Data)) (place : ℕ) (ys : List B)
    → SoFar f all left place ys → left ≡ None → each_of none f all ≡ Err none
fails none f all left place ys s lost = ap (each_of none f) (s.cut ∙ ap (option_map (λ ds. s.seen ++ ds)) lost)

told_of : {B F : Type 0} (none memory fault r : F) (f : List Data → ℕ → Data → Result B F) (seen : List Data) (ys : List B) (d : Data) (behind : Option (List Data))
    → ((rest : List Data) → each (f (seen ++ rest)) 0 seen ≡ Ok ys) → ((rest : List Data) → (fault ≡ memory → ⊥) → f (seen ++ d ∷ rest) (0 + length seen) d ≡ Err fault)
    → r ≡ reported_error none fault behind → (r ≡ memory → ⊥) → each_of none f (option_map (λ ds. seen ++ ds) (option_map (λ ds. d ∷ ds) behind)) ≡ Err r
told_of none memory fault r f seen ys d None read one is other = ap Err (sym is)
told_of none memory fault r f seen ys d (Some rest) read one is other =
    each_refused (f (seen ++ d ∷ rest)) 0 seen ys d rest fault (read (d ∷ rest)) (one rest (λ e. other (is ∙ e))) ∙ ap Err (sym is)

-- one was refused, or memory was
pub refused : {B F : Type 0} (none memory fault r : F) (f : List Data → ℕ → Data → Result B F) (all before behind : Option (List Data)) (place : ℕ) (ys : List B) (d : Data)
    → (s : SoFar f all before place ys) → before ≡ option_map (λ ds. d ∷ ds) behind → ((rest : List Data) → Fails memory fault (f (s.seen ++ d ∷ rest) place d))
    → r ≡ reported_error none fault behind → (r ≡ memory → ⊥) → each_of none f all ≡ Err r
refused none memory fault r f all before behind place ys d s next one is other =
    ap (each_of none f) (s.cut ∙ ap (option_map (λ ds. s.seen ++ ds)) next)
    ∙ told_of none memory fault r f s.seen ys d behind s.read (λ rest known. at_place (f (s.seen ++ d ∷ rest)) s.seen place d (Err fault) s.placed (one rest known)) is other

-- the members before the one that is read are those that were read
pub before : {B F : Type 0} (f : List Data → ℕ → Data → Result B F) (all left : Option (List Data)) (place : ℕ) (ys : List B) (s : SoFar f all left place ys) (behind : List Data)
    → take place (s.seen ++ behind) ≡ s.seen
before f all left place ys s behind = take_at s.seen behind place s.placed
