-- A reading function that agrees with a relation and with the causes why it fails, and how such functions join.
use Rattle.std.proofs.Common.{◌≡◌, ◌∙◌, ℕ, zero, suc, List, [], ◌∷◌, Result, refl, sym, ap, subst, inl, inr, arith}
use Rattle.std.specs.Prelude.{◌⊎◌, Contains}
use Rattle.std.specs.List.{AllZip}
use Rattle.json_words.specs.ReadsAs.{◌>>=◌}
use Rattle.json_words.specs.Each.{each}
use Rattle.schema.specs.Agreement.{Gives, HasOneOutcome}
use Rattle.schema.proofs.Steps.{done, failed}
use Rattle.schema.proofs.OneOutcome.{gives, one_outcome}

-- `Agrees w r Describes IsNone` holds if `r` is what `Describes` holds of, or `w` if `IsNone` holds, and one of them does
pub record Agrees {A F : Type 0} (w : F) (r : Result A F) (Describes : A → Type 0) (IsNone : Type 0) : Type 0 where
  pub states : (a : A) → Describes a → r ≡ done a
  pub fails : IsNone → r ≡ failed w
  pub known : ((a : A) × Describes a) ⊎ IsNone

bind_done : {A B F : Type 0} (r : Result A F) (k : A → Result B F) (x : A) (y : B) → r ≡ done x → k x ≡ done y → (r >>= k) ≡ done y
bind_done {A = A} {F = F} r k x y e g = ap (λ (s : Result A F). s >>= k) e ∙ g

bind_failed : {A B F : Type 0} (r : Result A F) (k : A → Result B F) (w : F) → r ≡ failed w → (r >>= k) ≡ failed w
bind_failed {A = A} {F = F} r k w e = ap (λ (s : Result A F). s >>= k) e

bind_fails : {A B F : Type 0} (r : Result A F) (k : A → Result B F) (x : A) (w : F) → r ≡ done x → k x ≡ failed w → (r >>= k) ≡ failed w
bind_fails {A = A} {F = F} r k x w e g = ap (λ (s : Result A F). s >>= k) e ∙ g

-- ---- steps in a row

module _ {A B F : Type 0} (w : F) (r : Result A F) (k : A → Result B F) (P : A → Type 0) (N : Type 0) (Q : A → B → Type 0) (M : Type 0)
    (first : Agrees w r P N) (next : (x : A) → P x → Agrees w (k x) (Q x) M) where
  abbrev Then : B → Type 0
  Then b = (x : A) × P x × Q x b

  then_states : (b : B) → Then b → (r >>= k) ≡ done b
  then_states b (x, p, q) = bind_done r k x b (first.states x p) ((next x p).states b q)

  later_fails : M → ((x : A) × P x) ⊎ N → (r >>= k) ≡ failed w
  later_fails m (inl h) = bind_fails r k h.0 w (first.states h.0 h.1) ((next h.0 h.1).fails m)
  later_fails m (inr n) = bind_failed r k w (first.fails n)

  then_fails : N ⊎ M → (r >>= k) ≡ failed w
  then_fails (inl n) = bind_failed r k w (first.fails n)
  then_fails (inr m) = later_fails m first.known

  next_known : (x : A) → P x → ((b : B) × Q x b) ⊎ M → ((b : B) × Then b) ⊎ (N ⊎ M)
  next_known x p (inl q) = inl (q.0, (x, p, q.1))
  next_known x p (inr m) = inr (inr m)

  then_known : ((x : A) × P x) ⊎ N → ((b : B) × Then b) ⊎ (N ⊎ M)
  then_known (inl h) = next_known h.0 h.1 (next h.0 h.1).known
  then_known (inr n) = inr (inl n)

  pub in_a_row : Agrees w (r >>= k) (λ b. (x : A) × P x × Q x b) (N ⊎ M)
  in_a_row = record { states = then_states; fails = then_fails; known = then_known first.known }

pub finish : {A F : Type 0} (w : F) (a : A) → Agrees w (done a) (λ b. a ≡ b) ⊥
finish w a = record { states = λ b e. ap done e; fails = λ h. absurd h; known = inl (a, refl) }

-- the same relation and the same causes, said otherwise
module _ {A F : Type 0} {w : F} {r : Result A F} {P : A → Type 0} {N : Type 0} (Q : A → Type 0) (M : Type 0) (agrees : Agrees w r P N)
    (to : (a : A) → P a → Q a) (from : (a : A) → Q a → P a) (cause : N → M) (cause_from : M → N) where
  known_as : ((a : A) × P a) ⊎ N → ((a : A) × Q a) ⊎ M
  known_as (inl h) = inl (h.0, to h.0 h.1)
  known_as (inr n) = inr (cause n)

  pub said_as : Agrees w r Q M
  said_as = record { states = λ a q. agrees.states a (from a q); fails = λ m. agrees.fails (cause_from m); known = known_as agrees.known }

-- ---- two to five steps that do not depend on each other, and what is made of them

pub two_steps : {A B X F : Type 0} {w : F} {r : Result A F} {s : Result B F} {P : A → Type 0} {Q : B → Type 0} {N M : Type 0} (make : A → B → X)
    → Agrees w r P N → Agrees w s Q M
    → Agrees w (r >>= λ a. s >>= λ b. done (make a b)) (λ x. (a : A) × P a × ((b : B) × Q b × (make a b ≡ x))) (N ⊎ (M ⊎ ⊥))
two_steps {B = B} {w = w} {r = r} {s = s} {P = P} {Q = Q} {N = N} {M = M} make one two =
    in_a_row w r (λ a. s >>= λ b. done (make a b)) P N (λ a x. (b : B) × Q b × (make a b ≡ x)) (M ⊎ ⊥) one (λ a p.
    in_a_row w s (λ b. done (make a b)) Q M (λ b x. make a b ≡ x) ⊥ two (λ b q. finish w (make a b)))

pub three_steps : {A B C X F : Type 0} {w : F} {r : Result A F} {s : Result B F} {t : Result C F} {P : A → Type 0} {Q : B → Type 0} {R : C → Type 0} {N M L : Type 0}
    (make : A → B → C → X) → Agrees w r P N → Agrees w s Q M → Agrees w t R L
    → Agrees w (r >>= λ a. s >>= λ b. t >>= λ c. done (make a b c))
    (λ x. (a : A) × P a × ((b : B) × Q b × ((c : C) × R c × (make a b c ≡ x)))) (N ⊎ (M ⊎ (L ⊎ ⊥)))
three_steps {B = B} {C = C} {w = w} {r = r} {s = s} {t = t} {P = P} {Q = Q} {R = R} {N = N} {M = M} {L = L} make one two three =
    in_a_row w r (λ a. s >>= λ b. t >>= λ c. done (make a b c)) P N (λ a x. (b : B) × Q b × ((c : C) × R c × (make a b c ≡ x))) (M ⊎ (L ⊎ ⊥)) one (λ a p.
    two_steps (make a) two three)

pub four_steps : {A B C D X F : Type 0} {w : F} {r : Result A F} {s : Result B F} {t : Result C F} {u : Result D F}
    {P : A → Type 0} {Q : B → Type 0} {R : C → Type 0} {S : D → Type 0} {N M L K : Type 0}
    (make : A → B → C → D → X) → Agrees w r P N → Agrees w s Q M → Agrees w t R L → Agrees w u S K
    → Agrees w (r >>= λ a. s >>= λ b. t >>= λ c. u >>= λ d. done (make a b c d))
    (λ x. (a : A) × P a × ((b : B) × Q b × ((c : C) × R c × ((d : D) × S d × (make a b c d ≡ x))))) (N ⊎ (M ⊎ (L ⊎ (K ⊎ ⊥))))
four_steps {B = B} {C = C} {D = D} {w = w} {r = r} {s = s} {t = t} {u = u} {P = P} {Q = Q} {R = R} {S = S} {N = N} {M = M} {L = L} {K = K} make one two three four =
    in_a_row w r (λ a. s >>= λ b. t >>= λ c. u >>= λ d. done (make a b c d)) P N
    (λ a x. (b : B) × Q b × ((c : C) × R c × ((d : D) × S d × (make a b c d ≡ x)))) (M ⊎ (L ⊎ (K ⊎ ⊥))) one (λ a p.
    three_steps (make a) two three four)

pub five_steps : {A B C D E X F : Type 0} {w : F} {r : Result A F} {s : Result B F} {t : Result C F} {u : Result D F} {v : Result E F}
    {P : A → Type 0} {Q : B → Type 0} {R : C → Type 0} {S : D → Type 0} {T : E → Type 0} {N M L K J : Type 0}
    (make : A → B → C → D → E → X) → Agrees w r P N → Agrees w s Q M → Agrees w t R L → Agrees w u S K → Agrees w v T J
    → Agrees w (r >>= λ a. s >>= λ b. t >>= λ c. u >>= λ d. v >>= λ e. done (make a b c d e))
    (λ x. (a : A) × P a × ((b : B) × Q b × ((c : C) × R c × ((d : D) × S d × ((e : E) × T e × (make a b c d e ≡ x)))))) (N ⊎ (M ⊎ (L ⊎ (K ⊎ (J ⊎ ⊥)))))
five_steps {B = B} {C = C} {D = D} {E = E} {w = w} {r = r} {s = s} {t = t} {u = u} {v = v} {P = P} {Q = Q} {R = R} {S = S} {T = T} {N = N} {M = M} {L = L} {K = K} {J = J} make one two three four five =
    in_a_row w r (λ a. s >>= λ b. t >>= λ c. u >>= λ d. v >>= λ e. done (make a b c d e)) P N
    (λ a x. (b : B) × Q b × ((c : C) × R c × ((d : D) × S d × ((e : E) × T e × (make a b c d e ≡ x))))) (M ⊎ (L ⊎ (K ⊎ (J ⊎ ⊥)))) one (λ a p.
    four_steps (make a) two three four five)

-- ---- each of a list

module _ {A B F : Type 0} (w : F) (f : ℕ → A → Result B F) (Describes : A → B → Type 0) (IsNone : A → Type 0) (one : (i : ℕ) (x : A) → Agrees w (f i x) (Describes x) (IsNone x)) where
  abbrev SomeIsNone : List A → Type 0
  SomeIsNone xs = (x : A) × Contains xs x × IsNone x

  abbrev Both : A → List A → List B → Type 0
  Both x xs zs = (y : B) × Describes x y × ((ys : List B) × AllZip Describes xs ys × (y ∷ ys ≡ zs))

  both_to : (x : A) (xs : List A) (zs : List B) → Both x xs zs → AllZip Describes (x ∷ xs) zs
  both_to x xs zs (y, h, rest) = subst (AllZip Describes (x ∷ xs)) rest.2 (h, rest.1)

  both_from : (x : A) (xs : List A) (zs : List B) → AllZip Describes (x ∷ xs) zs → Both x xs zs
  both_from x xs [] h = absurd h
  both_from x xs (y ∷ ys) h = (y, h.0, (ys, h.1, refl))

  cause_to : (x : A) (xs : List A) → IsNone x ⊎ (SomeIsNone xs ⊎ ⊥) → SomeIsNone (x ∷ xs)
  cause_to x xs (inl n) = (x, (zero, omega arith, refl), n)
  cause_to x xs (inr (inl (z, (k, lt, e), n))) = (z, (suc k, omega arith, e), n)
  cause_to x xs (inr (inr h)) = absurd h

  cause_from_list : (x : A) (xs : List A) → SomeIsNone (x ∷ xs) → IsNone x ⊎ (SomeIsNone xs ⊎ ⊥)
  cause_from_list x xs (z, (zero, lt, e), n) = inl (subst IsNone (sym e) n)
  cause_from_list x xs (z, (suc k, lt, e), n) = inr (inl (z, (k, omega arith, e), n))

  none_contained : (x : A) → Contains [] x → ⊥
  none_contained x (k, lt, e) = omega arith

  empty_states : (ys : List B) → AllZip Describes [] ys → done {F = F} [] ≡ done ys
  empty_states [] h = refl
  empty_states (y ∷ ys) h = absurd h

  pub each_agrees : (i : ℕ) (xs : List A) → Agrees w (each f i xs) (AllZip Describes xs) (SomeIsNone xs)
  unfolding each
  each_agrees i [] = record { states = empty_states; fails = λ h. absurd (none_contained h.0 h.1); known = inl ([], tt) }
  each_agrees i (x ∷ xs) =
      said_as (AllZip Describes (x ∷ xs)) (SomeIsNone (x ∷ xs))
      (two_steps (λ (y : B) (ys : List B). y ∷ ys) (one i x) (each_agrees (suc i) xs))
      (both_to x xs) (both_from x xs) (cause_to x xs) (cause_from_list x xs)

-- ---- the laws

module _ {A F : Type 0} (w : F) (r : Result A F) (Describes : A → Type 0) (IsNone : Type 0) (agrees : Agrees w r Describes IsNone) where
  abbrev Refuses : F → Type 0
  Refuses f = (f ≡ w) × IsNone

  refused : (f : F) → Refuses f → r ≡ failed f
  refused f h = agrees.fails h.1 ∙ ap failed (sym h.0)

  some_by : ((a : A) × Describes a) ⊎ IsNone → ((a : A) × Describes a) ⊎ ((f : F) × Refuses f)
  some_by (inl h) = inl h
  some_by (inr n) = inr (w, (refl, n))

  pub agreeing_gives : Gives r Describes (λ f. (f ≡ w) × IsNone)
  agreeing_gives = gives r Describes Refuses agrees.states refused (some_by agrees.known)

  pub agreeing_has_one : HasOneOutcome Describes (λ f. (f ≡ w) × IsNone)
  agreeing_has_one = one_outcome r Describes Refuses agrees.states refused (some_by agrees.known)
