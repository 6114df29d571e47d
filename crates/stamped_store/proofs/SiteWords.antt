-- Names of sites compared word by word: eight bytes weigh as the number that they spell, and zeros behind a name
-- change nothing, since no byte of a name is 0.
use Rattle.std.specs.Prelude.{◌≡◌, ◌≤◌, ◌<◌, ◌+◌, ◌*◌, ℕ, suc, zero, true, false, List, [], ◌∷◌, ◌++◌, length, take, drop, replicate, refl}
use Rattle.std.proofs.Common.{sym, ◌∙◌, ap, arith}
use Rattle.std.proofs.lemmas.List.{drop-drop, length-drop}
use Rattle.std.specs.Ordering.{nat_cmp, ordering_then, is_ne}
use Rattle.std.specs.Cmp.Lexicographic.{slice_cmp}
use Rattle.std.specs.declared.cmp.Ordering.{Ordering}
use Rattle.std.specs.declared.cmp.Ordering.TheVariants.{Less, Equal, Greater}
use Rattle.std.proofs.lemmas.Cmp.{ranked, by_ranked, nat_list_cmp_total, tied_itself}
use Rattle.plain.specs.Words.{AllAre, is_word_byte, is_digit, is_letter}
use Rattle.stamped_store.specs.SiteNames.{IsSiteName, is_site_byte, padded, spelt, word_at}
use Rattle.stamped_store.proofs.SiteNames.{less, equal, greater, then_assoc, then_equal, site_byte_is_ascii}

-- every byte is one
abbrev pub AreBytes : List ℕ → Type 0
AreBytes [] = Unit {0}
AreBytes (b ∷ bs) = (b < 256) × AreBytes bs

-- one byte more
one_byte_more : (m n x y : ℕ) → x < 256 → y < 256 → nat_cmp (m * 256 + x) (n * 256 + y) ≡ ordering_then (nat_cmp m n) (nat_cmp x y)
one_byte_more m n x y small low = by_ranked (m < n) (m ≡ n) (n < m) (nat_cmp m n) (ranked m n (nat_cmp m n) refl)
    (λ is h. less (m * 256 + x) (n * 256 + y) (omega arith) ∙ sym (ap (λ o. ordering_then o (nat_cmp x y)) is))
    (λ is h. by_ranked (x < y) (x ≡ y) (y < x) (nat_cmp x y) (ranked x y (nat_cmp x y) refl)
    (λ at l. less (m * 256 + x) (n * 256 + y) (omega arith) ∙ sym (ap (λ o. ordering_then o (nat_cmp x y)) is ∙ at))
    (λ at l. equal (m * 256 + x) (n * 256 + y) (omega arith) ∙ sym (ap (λ o. ordering_then o (nat_cmp x y)) is ∙ at))
    (λ at l. greater (m * 256 + x) (n * 256 + y) (omega arith) ∙ sym (ap (λ o. ordering_then o (nat_cmp x y)) is ∙ at)))
    (λ is h. greater (m * 256 + x) (n * 256 + y) (omega arith) ∙ sym (ap (λ o. ordering_then o (nat_cmp x y)) is))

-- what bytes spell is ordered as they are
spelt_cmp : (m n : ℕ) (xs ys : List ℕ) → length xs ≡ length ys → AreBytes xs → AreBytes ys → nat_cmp (spelt m xs) (spelt n ys) ≡ ordering_then (nat_cmp m n) (slice_cmp nat_cmp xs ys)
spelt_cmp m n [] [] same are those = sym (then_equal (nat_cmp m n))
spelt_cmp m n [] (y ∷ ys) same are those = absurd (omega arith)
spelt_cmp m n (x ∷ xs) [] same are those = absurd (omega arith)
spelt_cmp m n (x ∷ xs) (y ∷ ys) same are those =
    spelt_cmp (m * 256 + x) (n * 256 + y) xs ys (omega arith) are.1 those.1
    ∙ ap (λ o. ordering_then o (slice_cmp nat_cmp xs ys)) (one_byte_more m n x y are.0 those.0)
    ∙ then_assoc (nat_cmp m n) (nat_cmp x y) (slice_cmp nat_cmp xs ys)

bytes_taken : (k : ℕ) (xs : List ℕ) → AreBytes xs → AreBytes (take k xs)
bytes_taken zero xs are = tt
bytes_taken (suc k) [] are = tt
bytes_taken (suc k) (x ∷ xs) are = (are.0, bytes_taken k xs are.1)

bytes_left : (k : ℕ) (xs : List ℕ) → AreBytes xs → AreBytes (drop k xs)
bytes_left zero xs are = are
bytes_left (suc k) [] are = tt
bytes_left (suc k) (x ∷ xs) are = bytes_left k xs are.1

-- lists are ordered by what stands in front, and then by what stands behind it
by_front : (k : ℕ) (xs ys : List ℕ) → k ≤ length xs → k ≤ length ys
    → slice_cmp nat_cmp xs ys ≡ ordering_then (slice_cmp nat_cmp (take k xs) (take k ys)) (slice_cmp nat_cmp (drop k xs) (drop k ys))
by_front zero xs ys has had = refl
by_front (suc k) [] ys has had = absurd (omega arith)
by_front (suc k) (x ∷ xs) [] has had = absurd (omega arith)
by_front (suc k) (x ∷ xs) (y ∷ ys) has had =
    ap (ordering_then (nat_cmp x y)) (by_front k xs ys (omega arith) (omega arith))
    ∙ sym (then_assoc (nat_cmp x y) (slice_cmp nat_cmp (take k xs) (take k ys)) (slice_cmp nat_cmp (drop k xs) (drop k ys)))

long_front : (k : ℕ) (xs : List ℕ) → k ≤ length xs → length (take k xs) ≡ k
long_front zero xs has = refl
long_front (suc k) [] has = absurd (omega arith)
long_front (suc k) (x ∷ xs) has = let rest : length (take k xs) ≡ k = long_front k xs (omega arith) in omega arith

-- the same of the words from a place on
by_word : (at : ℕ) (xs ys : List ℕ) → at + 8 ≤ length xs → at + 8 ≤ length ys → AreBytes xs → AreBytes ys
    → slice_cmp nat_cmp (drop at xs) (drop at ys)
    ≡ ordering_then (nat_cmp (word_at at xs) (word_at at ys)) (slice_cmp nat_cmp (drop (at + 8) xs) (drop (at + 8) ys))
by_word at xs ys has had are those =
    let left : 8 ≤ length (drop at xs) = omega (arith, length-drop at xs) in
    let right : 8 ≤ length (drop at ys) = omega (arith, length-drop at ys) in
    by_front 8 (drop at xs) (drop at ys) left right
    ∙ ap (λ o. ordering_then o (slice_cmp nat_cmp (drop 8 (drop at xs)) (drop 8 (drop at ys))))
    (sym (spelt_cmp 0 0 (take 8 (drop at xs)) (take 8 (drop at ys)) (long_front 8 (drop at xs) left ∙ sym (long_front 8 (drop at ys) right))
    (bytes_taken 8 (drop at xs) (bytes_left at xs are)) (bytes_taken 8 (drop at ys) (bytes_left at ys those))))
    ∙ ap (λ (rest : List ℕ). ordering_then (nat_cmp (word_at at xs) (word_at at ys)) (slice_cmp nat_cmp rest (drop 8 (drop at ys)))) (drop-drop 8 at xs)
    ∙ ap (λ (rest : List ℕ). ordering_then (nat_cmp (word_at at xs) (word_at at ys)) (slice_cmp nat_cmp (drop (at + 8) xs) rest)) (drop-drop 8 at ys)

-- ---- names with zeros behind them
site_byte_is_some : (c : ℕ) → is_site_byte c ≡ true → 0 < c
unfolding is_site_byte is_word_byte is_digit is_letter
site_byte_is_some zero h = absurd (cc)
site_byte_is_some (suc c) h = omega arith

-- zeros behind a name up to this many bytes
abbrev behind : ℕ → List ℕ → List ℕ
behind k name = name ++ drop (length name) (replicate k 0)

behind_cmp : (k : ℕ) (xs ys : List ℕ) → length xs ≤ k → length ys ≤ k → AllAre is_site_byte xs → AllAre is_site_byte ys
    → slice_cmp nat_cmp (behind k xs) (behind k ys) ≡ slice_cmp nat_cmp xs ys
behind_cmp k [] [] fits fit are those = tied_itself nat_list_cmp_total (replicate k 0)
behind_cmp zero [] (y ∷ ys) fits fit are those = absurd (omega arith)
behind_cmp (suc k) [] (y ∷ ys) fits fit are those =
    ap (λ o. ordering_then o (slice_cmp nat_cmp (replicate k 0) (behind k ys))) (less 0 y (site_byte_is_some y those.0))
behind_cmp zero (x ∷ xs) ys fits fit are those = absurd (omega arith)
behind_cmp (suc k) (x ∷ xs) [] fits fit are those =
    ap (λ o. ordering_then o (slice_cmp nat_cmp (behind k xs) (replicate k 0))) (greater x 0 (site_byte_is_some x are.0))
behind_cmp (suc k) (x ∷ xs) (y ∷ ys) fits fit are those =
    ap (ordering_then (nat_cmp x y)) (behind_cmp k xs ys (omega arith) (omega arith) are.1 those.1)

zeros_are_bytes : (k : ℕ) → AreBytes (replicate k 0)
zeros_are_bytes zero = tt
zeros_are_bytes (suc k) = (omega arith, zeros_are_bytes k)

behind_are_bytes : (k : ℕ) (name : List ℕ) → length name ≤ k → AllAre is_site_byte name → AreBytes (behind k name)
behind_are_bytes k [] fits are = zeros_are_bytes k
behind_are_bytes zero (c ∷ cs) fits are = absurd (omega arith)
behind_are_bytes (suc k) (c ∷ cs) fits are = (omega (arith, site_byte_is_ascii c are.0), behind_are_bytes k cs (omega arith) are.1)

behind_long : (k : ℕ) (name : List ℕ) → length name ≤ k → length (behind k name) ≡ k
behind_long k [] fits = long_zeros k
  where
    long_zeros : (k : ℕ) → length {A = ℕ} (replicate k 0) ≡ k
    long_zeros zero = refl
    long_zeros (suc k) = let rest = long_zeros k in omega arith
behind_long zero (c ∷ cs) fits = absurd (omega arith)
behind_long (suc k) (c ∷ cs) fits = let rest = behind_long k cs (omega arith) in omega arith

-- what is kept of a name is ordered as its four words
by_four_words : (xs ys : List ℕ) → length xs ≡ 32 → length ys ≡ 32 → AreBytes xs → AreBytes ys
    → slice_cmp nat_cmp xs ys ≡ ordering_then (nat_cmp (word_at 0 xs) (word_at 0 ys))
    (ordering_then (nat_cmp (word_at 8 xs) (word_at 8 ys))
    (ordering_then (nat_cmp (word_at 16 xs) (word_at 16 ys)) (nat_cmp (word_at 24 xs) (word_at 24 ys))))
by_four_words xs ys long other are those =
    by_word 0 xs ys (omega arith) (omega arith) are those
    ∙ ap (ordering_then (nat_cmp (word_at 0 xs) (word_at 0 ys))) (by_word 8 xs ys (omega arith) (omega arith) are those
    ∙ ap (ordering_then (nat_cmp (word_at 8 xs) (word_at 8 ys))) (by_word 16 xs ys (omega arith) (omega arith) are those
    ∙ ap (ordering_then (nat_cmp (word_at 16 xs) (word_at 16 ys))) (by_word 24 xs ys (omega arith) (omega arith) are those
    ∙ ap (ordering_then (nat_cmp (word_at 24 xs) (word_at 24 ys))) ended
    ∙ then_equal (nat_cmp (word_at 24 xs) (word_at 24 ys)))))
  where
    nothing : (zs : List ℕ) → length zs ≡ 32 → drop 32 zs ≡ []
    nothing zs is = empty (drop 32 zs) (omega (arith, length-drop 32 zs))
      where
        empty : (ys : List ℕ) → length ys ≡ 0 → ys ≡ []
        empty [] h = refl
        empty (y ∷ ys) h = absurd (omega arith)

    ended : slice_cmp nat_cmp (drop 32 xs) (drop 32 ys) ≡ Equal
    ended = ap (λ (rest : List ℕ). slice_cmp nat_cmp rest (drop 32 ys)) (nothing xs long) ∙ ap (slice_cmp nat_cmp []) (nothing ys other)

-- names are ordered as the four words of what keeps them
pub names_by_words : (m n : List ℕ) → IsSiteName m → IsSiteName n
    → slice_cmp nat_cmp m n ≡ ordering_then (nat_cmp (word_at 0 (padded m)) (word_at 0 (padded n)))
    (ordering_then (nat_cmp (word_at 8 (padded m)) (word_at 8 (padded n)))
    (ordering_then (nat_cmp (word_at 16 (padded m)) (word_at 16 (padded n))) (nat_cmp (word_at 24 (padded m)) (word_at 24 (padded n)))))
names_by_words m n named other =
    sym (behind_cmp 32 m n named.short other.short named.bytes other.bytes)
    ∙ by_four_words (padded m) (padded n) (behind_long 32 m named.short) (behind_long 32 n other.short)
    (behind_are_bytes 32 m named.short named.bytes) (behind_are_bytes 32 n other.short other.bytes)

-- ---- the first words that differ tell
differs : (o rest : Ordering) → true ≡ is_ne o → ordering_then o rest ≡ o
differs Less rest h = refl
differs Equal rest h = absurd (cc)
differs Greater rest h = refl

alike : (o rest : Ordering) → false ≡ is_ne o → ordering_then o rest ≡ rest
alike Less rest h = absurd (cc)
alike Equal rest h = refl
alike Greater rest h = absurd (cc)

-- how two names' words at this place are ordered
abbrev pub word_order : ℕ → List ℕ → List ℕ → Ordering
word_order at m n = nat_cmp (word_at at (padded m)) (word_at at (padded n))

pub first_tells : {m n : List ℕ} {a : Ordering} → IsSiteName m × IsSiteName n → a ≡ word_order 0 m n → true ≡ is_ne a → a ≡ slice_cmp nat_cmp m n
first_tells {m} {n} named is h = sym (
    names_by_words m n named.0 named.1
    ∙ ap (λ o. ordering_then o (ordering_then (word_order 8 m n) (ordering_then (word_order 16 m n) (word_order 24 m n)))) (sym is)
    ∙ differs _ _ h)

-- past a word that is the same in both
past : {a b : Ordering} (rest : Ordering) → a ≡ b → false ≡ is_ne a → ordering_then b rest ≡ rest
past rest is h = ap (λ o. ordering_then o rest) (sym is) ∙ alike _ rest h

pub second_tells : {m n : List ℕ} {a b : Ordering} → IsSiteName m × IsSiteName n → a ≡ word_order 0 m n → false ≡ is_ne a
    → b ≡ word_order 8 m n → true ≡ is_ne b → b ≡ slice_cmp nat_cmp m n
second_tells {m} {n} named is h then_is differ = sym (
    names_by_words m n named.0 named.1
    ∙ past _ is h
    ∙ ap (λ o. ordering_then o (ordering_then (word_order 16 m n) (word_order 24 m n))) (sym then_is)
    ∙ differs _ _ differ)

pub third_tells : {m n : List ℕ} {a b d : Ordering} → IsSiteName m × IsSiteName n → a ≡ word_order 0 m n → false ≡ is_ne a
    → b ≡ word_order 8 m n → false ≡ is_ne b → d ≡ word_order 16 m n → true ≡ is_ne d → d ≡ slice_cmp nat_cmp m n
third_tells {m} {n} named is h then_is same third_is differ = sym (
    names_by_words m n named.0 named.1
    ∙ past _ is h
    ∙ past _ then_is same
    ∙ ap (λ o. ordering_then o (word_order 24 m n)) (sym third_is)
    ∙ differs _ _ differ)

pub fourth_tells : {m n : List ℕ} {a b d e : Ordering} → IsSiteName m × IsSiteName n → a ≡ word_order 0 m n → false ≡ is_ne a
    → b ≡ word_order 8 m n → false ≡ is_ne b → d ≡ word_order 16 m n → false ≡ is_ne d → e ≡ word_order 24 m n → e ≡ slice_cmp nat_cmp m n
fourth_tells {m} {n} named is h then_is same third_is alike last_is = sym (
    names_by_words m n named.0 named.1
    ∙ past _ is h
    ∙ past _ then_is same
    ∙ past _ third_is alike
    ∙ sym last_is)
