-- Reading each member of an object, as a loop over a map does: what is left, behind what was read.
use Rattle.std.proofs.Common.{◌≡◌, ◌∙◌, ℕ, List, [], ◌∷◌, ◌++◌, map, String, Global, string_bytes, Result, Ok, Err, refl, sym, ap}
use Rattle.std.proofs.lemmas.List.{append_assoc, append-nil, map-append}
use Rattle.serde_json.specs.Data.{Data}
use Rattle.serde_json.specs.View.{view, members_view}
use Rattle.serde_json.specs.declared.value.Value.{Value}
use Rattle.json_words.specs.ReadsAs.{◌>>=◌, Fails}
use Rattle.json_words.specs.Each.{each_member}

abbrev pub Entry : Type 0
Entry = String Global × Value

-- what was read, and then what reading the rest gives
abbrev pub after : {B F : Type 0} → List B → Result (List B) F → Result (List B) F
after front read = read >>= λ later. Ok (front ++ later)

pub after_none : {B F : Type 0} (read : Result (List B) F) → read ≡ after [] read
after_none (Ok later) = refl
after_none (Err e) = refl

after_push : {B F : Type 0} (front : List B) (x : B) (read : Result (List B) F)
    → after front (read >>= λ later. Ok (x ∷ later)) ≡ after (front ++ x ∷ []) read
after_push {B = B} front x (Ok later) = ap (λ (l : List B). Ok l) (sym (append_assoc front (x ∷ []) later))
after_push front x (Err e) = refl

-- none was read yet
pub members_begin : {X B F : Type 0} (see : X → B) (f : List ℕ → Data → Result B F) (front : List X) (entries middle left : List Entry)
    → front ≡ [] → left ≡ middle → middle ≡ entries
    → each_member f (members_view entries) ≡ after (map see front) (each_member f (members_view left))
members_begin see f front entries middle left none here there =
    let same : entries ≡ left = sym (here ∙ there) in
    let empty : [] ≡ front = sym none in
    after_none (each_member f (members_view entries)) ∙ (λ i. after (map see (empty i)) (each_member f (members_view (same i))))

-- one more was read
pub member_goes : {X B F : Type 0} (see : X → B) (f : List ℕ → Data → Result B F) (e : Entry) (left : List Entry) (front : List X) (x : X)
    (key : List ℕ) (total : Result (List B) F)
    → key ≡ string_bytes e.0 → f key (view e.1) ≡ Ok (see x)
    → total ≡ after (map see front) (each_member f (members_view (e ∷ left)))
    → total ≡ after (map see (front ++ x ∷ [])) (each_member f (members_view left))
unfolding each_member
member_goes {B = B} see f e left front x key total same read so_far =
    let here : f (string_bytes e.0) (view e.1) ≡ Ok (see x) = ap (λ (k : List ℕ). f k (view e.1)) (sym same) ∙ read in
    so_far ∙ rw here (after_push (map see front) (see x) (each_member f (members_view left)))
    ∙ ap (λ (l : List B). after l (each_member f (members_view left))) (sym (map-append see front (x ∷ [])))

-- one is refused, and so is the object
pub member_fails : {X B F : Type 0} (see : X → B) (f : List ℕ → Data → Result B F) (e : Entry) (left : List Entry) (front : List X)
    (memory x : F) (key : List ℕ) (total : Result (List B) F)
    → key ≡ string_bytes e.0 → Fails memory x (f key (view e.1))
    → total ≡ after (map see front) (each_member f (members_view (e ∷ left)))
    → Fails memory x total
unfolding each_member
member_fails {B = B} see f e left front memory x key total same fails so_far other =
    let here : f (string_bytes e.0) (view e.1) ≡ Err x = ap (λ (k : List ℕ). f k (view e.1)) (sym same) ∙ fails other in
    so_far ∙ rw here refl

-- all were read
pub members_done : {X B F : Type 0} (see : X → B) (f : List ℕ → Data → Result B F) (front : List X) (total : Result (List B) F)
    → total ≡ after (map see front) (each_member f (members_view [])) → total ≡ Ok (map see front)
unfolding each_member
members_done {B = B} see f front total so_far = so_far ∙ ap (λ (l : List B). Ok l) (append-nil (map see front))
