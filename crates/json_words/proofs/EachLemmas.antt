-- Reading each element, as a loop does.
use Rattle.std.proofs.Common.{◌≡◌, ◌∙◌, ℕ, suc, ◌+◌, ◌<◌, ◌≤◌, List, [], ◌∷◌, ◌++◌, map, length, take, drop, get_or, Result, Ok, Err, refl, sym, ap, arith}
use Rattle.std.proofs.lemmas.List.{take_more, take_all, map-append, length-map, length-take}
use Rattle.std.proofs.Math.Seq.{split_at}
use Rattle.serde_json.specs.Data.{Data}
use Rattle.serde_json.specs.View.{view, items_view}
use Rattle.serde_json.specs.declared.value.Value.{Value}
use Rattle.json_words.specs.ReadsAs.{◌>>=◌, Fails}
use Rattle.json_words.specs.Each.{each, list_of}

pub list_of-items_view : (vs : List Value) → list_of (items_view vs) ≡ map view vs
list_of-items_view [] = refl
list_of-items_view (v ∷ vs) = ap (λ (ds : List Data). view v ∷ ds) (list_of-items_view vs)

-- the value of a step that did not fail
pub bind_ok : {A B F : Type 0} (r : Result A F) (f : A → Result B F) (y : B) → (r >>= f) ≡ Ok y → (x : A) × (r ≡ Ok x) × (f x ≡ Ok y)
bind_ok (Ok x) f y e = (x, refl, e)
bind_ok (Err d) f y e = absurd cc

abbrev done : {B F : Type 0} → F → B → Result B F
done e x = Ok x

ok_is : {B F : Type 0} (e : F) (x y : B) → done e x ≡ done e y → x ≡ y
ok_is e x y h = cc

along : {A B F : Type 0} (f : ℕ → A → Result B F) (m n : ℕ) (x : A) (r : Result B F) → m ≡ n → f m x ≡ r → f n x ≡ r
along f m n x r same h = ap (λ (i : ℕ). f i x) (sym same) ∙ h

-- after a front that was read, an element that is read
pub each_push : {A B F : Type 0} (f : ℕ → A → Result B F) (k : ℕ) (xs : List A) (ys : List B) (x : A) (y : B)
    → each f k xs ≡ Ok ys → f (k + length xs) x ≡ Ok y → each f k (xs ++ x ∷ []) ≡ Ok (ys ++ y ∷ [])
unfolding each
each_push {B = B} f k [] ys x y read one =
    let none : [] ≡ ys = cc in
    let here = along f (k + 0) k x (Ok y) (omega arith) one in
    rw here (ap (λ (l : List B). Ok (l ++ y ∷ [])) none)
each_push {B = B} f k (z ∷ xs) ys x y read one =
    let a = bind_ok (f k z) (λ y1. each f (suc k) xs >>= λ ys1. Ok (y1 ∷ ys1)) ys read in
    let b = bind_ok (each f (suc k) xs) (λ ys1. Ok (a.0 ∷ ys1)) ys a.2 in
    let here = along f (k + suc (length xs)) (suc k + length xs) x (Ok y) (omega arith) one in
    let rest = each_push f (suc k) xs b.0 x y b.1 here in
    let same : a.0 ∷ b.0 ≡ ys = cc b.2 in
    rw (a.1, rest) (ap (λ (l : List B). Ok (l ++ y ∷ [])) same)

-- after a front that was read, an element that is refused
pub each_refused : {A B F : Type 0} (f : ℕ → A → Result B F) (k : ℕ) (xs : List A) (ys : List B) (x : A) (more : List A) (e : F)
    → each f k xs ≡ Ok ys → f (k + length xs) x ≡ Err e → each f k (xs ++ x ∷ more) ≡ Err e
unfolding each
each_refused {B = B} f k [] ys x more e read one =
    let here = along f (k + 0) k x (Err e) (omega arith) one in
    rw here refl
each_refused {B = B} f k (z ∷ xs) ys x more e read one =
    let a = bind_ok (f k z) (λ y1. each f (suc k) xs >>= λ ys1. Ok (y1 ∷ ys1)) ys read in
    let b = bind_ok (each f (suc k) xs) (λ ys1. Ok (a.0 ∷ ys1)) ys a.2 in
    let here = along f (k + suc (length xs)) (suc k + length xs) x (Err e) (omega arith) one in
    let rest = each_refused f (suc k) xs b.0 x more e b.1 here in
    rw (a.1, rest) refl

front_length : {X A : Type 0} (see : X → A) (i : ℕ) (vs : List X) → i < length vs → i ≡ 0 + length (map see (take i vs))
front_length see i vs lt = rw length-map (omega (arith, length-take i vs))

-- A step of a loop over vs, at the index i: v was read.
pub each_next : {X A B F : Type 0} (see : X → A) (f : ℕ → A → Result B F) (vs : List X) (i : ℕ) (v : X) (ys : List B) (y : B)
    → i < length vs → v ≡ get_or vs i v → each f 0 (map see (take i vs)) ≡ Ok ys → f i (see v) ≡ Ok y
    → each f 0 (map see (take (i + 1) vs)) ≡ Ok (ys ++ y ∷ [])
each_next see f vs i v ys y lt at read one =
    let here = along f i (0 + length (map see (take i vs))) (see v) (Ok y) (front_length see i vs lt) one in
    let pushed = each_push f 0 (map see (take i vs)) ys (see v) y read here in
    rw (take_more vs i v lt, map-append, ← at) pushed

-- The same where v is refused: so is the whole list.
pub each_stops : {X A B F : Type 0} (see : X → A) (f : ℕ → A → Result B F) (vs : List X) (i : ℕ) (v : X) (ys : List B) (e : F)
    → i < length vs → v ≡ get_or vs i v → each f 0 (map see (take i vs)) ≡ Ok ys → f i (see v) ≡ Err e
    → each f 0 (map see vs) ≡ Err e
each_stops {X = X} {A = A} see f vs i v ys e lt at read one =
    let here = along f i (0 + length (map see (take i vs))) (see v) (Err e) (front_length see i vs lt) one in
    let stopped = each_refused f 0 (map see (take i vs)) ys (see v) (map see (drop (suc i) vs)) e read here in
    let cut : vs ≡ take i vs ++ v ∷ drop (suc i) vs = split_at vs i v lt ∙ ap (λ (x : X). take i vs ++ x ∷ drop (suc i) vs) (sym at) in
    ap (λ (l : List X). each f 0 (map see l)) cut ∙ ap (λ (l : List A). each f 0 l) (map-append see (take i vs) (v ∷ drop (suc i) vs)) ∙ stopped

-- The same for code that may lack memory.
pub each_fails : {X A B F : Type 0} (see : X → A) (f : ℕ → A → Result B F) (vs : List X) (i : ℕ) (v : X) (ys : List B) (memory e : F)
    → i < length vs → v ≡ get_or vs i v → each f 0 (map see (take i vs)) ≡ Ok ys → Fails memory e (f i (see v))
    → Fails memory e (each f 0 (map see vs))
each_fails see f vs i v ys memory e lt at read one other = each_stops see f vs i v ys e lt at read (one other)

pub each_ends : {X A B F : Type 0} (see : X → A) (f : ℕ → A → Result B F) (vs : List X) (n : ℕ) (ys : List B)
    → length vs ≤ n → each f 0 (map see (take n vs)) ≡ Ok ys → each f 0 (map see vs) ≡ Ok ys
each_ends {X = X} see f vs n ys le read = ap (λ (l : List X). each f 0 (map see l)) (sym (take_all n vs le)) ∙ read

-- ---- the answers of a loop over the values of an array

pub items_fail : {B F : Type 0} (f : ℕ → Data → Result B F) (vs : List Value) (i : ℕ) (v : Value) (ys : List B) (memory e : F)
    → i < length vs → v ≡ get_or vs i v → each f 0 (map view (take i vs)) ≡ Ok ys → Fails memory e (f i (view v))
    → Fails memory e (each f 0 (list_of (items_view vs)))
items_fail f vs i v ys memory e lt at read one = rw list_of-items_view (each_fails view f vs i v ys memory e lt at read one)

pub items_end : {B F : Type 0} (f : ℕ → Data → Result B F) (vs : List Value) (n : ℕ) (ys : List B)
    → length vs ≤ n → each f 0 (map view (take n vs)) ≡ Ok ys → each f 0 (list_of (items_view vs)) ≡ Ok ys
items_end f vs n ys le read = rw list_of-items_view (each_ends view f vs n ys le read)
