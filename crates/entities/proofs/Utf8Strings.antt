-- The content of a string that was read is UTF-8: a quote, a backslash and all of an escape are ASCII, so what stands between them is UTF-8 where the whole is.
use Rattle.std.proofs.Common.{◌≡◌, ◌∙◌, ℕ, ◌+◌, ◌*◌, ◌<◌, ◌≤◌, Bool, true, false, cond, ◌&&◌, ◌==◌}
use Rattle.std.proofs.Common.{◌⊎◌, inl, inr, List, [], ◌∷◌, ◌++◌, length, Option, Some, None, option_map}
use Rattle.std.proofs.Common.{option_and_then, refl, sym, ap, subst, arith, append_assoc, append-nil}
use Rattle.std.proofs.Common.{nat_le, nat_lt, eqb-true, ltb-true, leb-true}
use Rattle.std.proofs.Common.{lt-ltb, le-ltb, le-leb, length-append}
use Rattle.std.proofs.Math.Seq.{get_or-append_seam, take-append_seam, drop-append-add}
use Rattle.std.proofs.Math.Utf8.{low_scalar}
use Rattle.std.proofs.lemmas.Bool.{and_parts, cases_lt}
use Rattle.std.proofs.lemmas.Option.{cond_some}
use Rattle.std.proofs.lemmas.Str.{IsUtf8-append, IsUtf8-encode, IsUtf8-take, IsUtf8-drop}
use Rattle.std.proofs.lemmas.Str.{IsCharBoundary-before_ascii, IsCharBoundary-after_ascii}
use Rattle.std.proofs.lemmas.Str.{encode_ascii}
use Rattle.std.specs.Char.{IsScalar, digit_value, is_digit, encode_utf8}
use Rattle.std.specs.Str.{IsUtf8}
use Rattle.json.specs.Text.{code_unit, short_escape, content, plain, after_backslash, after_u, after_high}
use Rattle.json.specs.Text.{is_high_surrogate, is_low_surrogate, surrogate_pair, prepend}

abbrev pub some : {A : Type 0} → A → Option A
some x = Some x

pub some_same : {A : Type 0} (x y : A) → some x ≡ some y → x ≡ y
some_same x y e = cc

pub mapped : {A B : Type 0} (f : A → B) (o : Option A) (y : B) → option_map f o ≡ some y
    → (x : A) × (o ≡ some x) × (f x ≡ y)
mapped f None y e = absurd cc
mapped f (Some x) y e = (x, refl, some_same (f x) y e)

pub followed : {A B : Type 0} (f : A → Option B) (o : Option A) (y : B) → option_and_then f o ≡ some y
    → (x : A) × (o ≡ some x) × (f x ≡ some y)
followed f None y e = absurd cc
followed f (Some x) y e = (x, refl, e)

pub branches : {A : Type 0} (b : Bool) (o p : Option A) (y : A) → cond b o p ≡ some y
    → ((b ≡ true) × (o ≡ some y)) ⊎ ((b ≡ false) × (p ≡ some y))
branches true o p y e = inl (refl, e)
branches false o p y e = inr (refl, e)

-- ---- cuts

-- what stands before an ASCII byte
before : (fs : List ℕ) (x : ℕ) (xs : List ℕ) → x < 128 → IsUtf8 (fs ++ x ∷ xs) → IsUtf8 fs
before fs x xs small u =
    let all = fs ++ x ∷ xs in
    let at = get_or-append_seam fs x xs 0 in
    let within : length fs < length all = omega (arith, length-append fs (x ∷ xs)) in
    let cut = IsCharBoundary-before_ascii all (length fs) within (omega (arith, at)) in
    subst IsUtf8 (take-append_seam fs (x ∷ xs)) (IsUtf8-take all (length fs) u cut)

-- and behind it
pub behind : (fs : List ℕ) (x : ℕ) (xs : List ℕ) → x < 128 → IsUtf8 (fs ++ x ∷ xs) → IsUtf8 xs
behind fs x xs small u =
    let all = fs ++ x ∷ xs in
    let at = get_or-append_seam fs x xs 0 in
    let within : length fs < length all = omega (arith, length-append fs (x ∷ xs)) in
    let cut = IsCharBoundary-after_ascii all (length fs) u within (omega (arith, at)) in
    subst IsUtf8 (drop-append-add fs (x ∷ xs) 1) (IsUtf8-drop all (length fs + 1) u cut)

tail_utf8 : (x : ℕ) (xs : List ℕ) → x < 128 → IsUtf8 (x ∷ xs) → IsUtf8 xs
tail_utf8 x xs small u = behind [] x xs small u

high_scalar : (c : ℕ) → 57344 ≤ c → c < 1114112 → IsScalar c
high_scalar c low high =
    λ j. cond (le-ltb c 55296 (omega arith) j) true (le-leb 57344 c low j && lt-ltb c 1114112 high j)

ascii_then : (x : ℕ) (xs : List ℕ) → x < 128 → IsUtf8 xs → IsUtf8 (x ∷ xs)
ascii_then x xs small u =
    IsUtf8-append (x ∷ []) xs (subst IsUtf8 (encode_ascii x small) (IsUtf8-encode x (low_scalar x (omega arith)))) u

-- ---- escapes

-- hex digits are ASCII
digit_ascii : (a : ℕ) → digit_value a < 16 → a < 128
digit_ascii a h = grind arith

weighed : (a b c d : ℕ) → a < 16 → b < 16 → c < 16 → d < 16 → a * 4096 + b * 256 + c * 16 + d < 65536
weighed a b c d ha hb hc hd = omega arith

unit_parts : (a b c d u : ℕ) → code_unit a b c d ≡ some u
    → (a < 128) × (b < 128) × (c < 128) × (d < 128) × (u < 65536)
unfolding code_unit
unit_parts a b c d u e =
    let all = is_digit a 16 && is_digit b 16 && is_digit c 16 && is_digit d 16 in
    let t = cond_some all (digit_value a * 4096 + digit_value b * 256 + digit_value c * 16 + digit_value d) u e in
    let p = and_parts _ (is_digit d 16) t.0 in
    let q = and_parts _ (is_digit c 16) p.0 in
    let r = and_parts (is_digit a 16) (is_digit b 16) q.0 in
    let ha : digit_value a < 16 = ltb-true _ _ r.0 in
    let hb : digit_value b < 16 = ltb-true _ _ r.1 in
    let hc : digit_value c < 16 = ltb-true _ _ q.1 in
    let hd : digit_value d < 16 = ltb-true _ _ p.1 in
    let fits = weighed _ _ _ _ ha hb hc hd in
    (digit_ascii a ha, digit_ascii b hb, digit_ascii c hc, digit_ascii d hd, subst (λ n. n < 65536) t.1 fits)

short_parts : (x c : ℕ) → short_escape x ≡ some c → (x < 128) × (c < 128)
unfolding short_escape
short_parts x c e = grind arith

-- a code unit that is no surrogate is a scalar value, and so is a pair
low_unit : (u : ℕ) → u < 65536 → is_high_surrogate u ≡ false → is_low_surrogate u ≡ false → IsScalar u
low_unit u h high low = elim (cases_lt u 55296) [
  | inl below ↦ low_scalar u below
  | inr above ↦ high_scalar u (grind arith) (omega arith)
]

pair_scalar : (h l : ℕ) → 55296 ≤ h → h < 56320 → 56320 ≤ l → l < 57344 → IsScalar (surrogate_pair h l)
pair_scalar h l a b c d = high_scalar (surrogate_pair h l) (omega arith) (omega arith)

pub between : (a b u : ℕ) → (nat_le a u && nat_lt u b) ≡ true → (a ≤ u) × (u < b)
between a b u e = let p = and_parts (nat_le a u) (nat_lt u b) e in (leb-true _ _ p.0, ltb-true _ _ p.1)

-- ---- the content of a string

-- fs is what was passed since an ASCII byte
mutual
  unfolding content

  pub plain_utf8 : (xs fs s : List ℕ) → IsUtf8 (fs ++ xs) → content plain xs ≡ some s → IsUtf8 (fs ++ s)
  plain_utf8 [] fs s u e = absurd cc
  plain_utf8 (x ∷ xs) fs s u e = elim (branches (x == 34) (Some []) _ s e) [
    | inl h ↦
        let is = eqb-true x 34 h.0 in
        let end : fs ≡ fs ++ s = sym (append-nil fs) ∙ ap (λ t. fs ++ t) (some_same [] s h.1) in
        subst IsUtf8 end (before fs x xs (omega arith) u)
    | inr h ↦ elim (branches (x == 92) (content after_backslash xs) _ s h.1) [
      | inl k ↦
          let is = eqb-true x 92 k.0 in
          let small : x < 128 = omega arith in
          IsUtf8-append fs s (before fs x xs small u) (slash_utf8 xs s (behind fs x xs small u) k.1)
      | inr k ↦ elim (branches (nat_lt x 32) None _ s k.1) [
        | inl l ↦ absurd cc
        | inr l ↦
            let m = mapped (λ t. (x ∷ []) ++ t) (content plain xs) s l.1 in
            let more = subst IsUtf8 (sym (append_assoc fs (x ∷ []) xs)) u in
            let all = plain_utf8 xs (fs ++ x ∷ []) m.0 more m.1 in
            subst IsUtf8 (append_assoc fs (x ∷ []) m.0 ∙ ap (λ t. fs ++ t) m.2) all
      ]
    ]
  ]

  slash_utf8 : (xs s : List ℕ) → IsUtf8 xs → content after_backslash xs ≡ some s → IsUtf8 s
  slash_utf8 [] s u e = absurd cc
  slash_utf8 (x ∷ xs) s u e = elim (branches (x == 117) (content after_u xs) _ s e) [
    | inl h ↦ let is = eqb-true x 117 h.0 in unit_utf8 xs s (tail_utf8 x xs (omega arith) u) h.1
    | inr h ↦
        let f = followed (λ c. prepend (c ∷ []) (content plain xs)) (short_escape x) s h.1 in
        let small = short_parts x f.0 f.1 in
        let m = mapped (λ t. (f.0 ∷ []) ++ t) (content plain xs) s f.2 in
        subst IsUtf8 m.2 (ascii_then f.0 m.0 small.1 (plain_utf8 xs [] m.0 (tail_utf8 x xs small.0 u) m.1))
  ]

  unit_utf8 : (xs s : List ℕ) → IsUtf8 xs → content after_u xs ≡ some s → IsUtf8 s
  unit_utf8 [] s u e = absurd cc
  unit_utf8 (a ∷ []) s u e = absurd cc
  unit_utf8 (a ∷ b ∷ []) s u e = absurd cc
  unit_utf8 (a ∷ b ∷ c ∷ []) s u e = absurd cc
  unit_utf8 (a ∷ b ∷ c ∷ d ∷ xs) s u e =
      let f = followed _ (code_unit a b c d) s e in
      let n = f.0 in
      let p = unit_parts a b c d n f.1 in
      let at_d = tail_utf8 c (d ∷ xs) p.2 (tail_utf8 b (c ∷ d ∷ xs) p.1 (tail_utf8 a (b ∷ c ∷ d ∷ xs) p.0 u)) in
      let rest = tail_utf8 d xs p.3 at_d in
      elim (branches (is_high_surrogate n) (content (after_high n) xs) _ s f.2) [
        | inl h ↦ let high = between 55296 56320 n h.0 in pair_utf8 xs n s high.0 high.1 rest h.1
        | inr h ↦ elim (branches (is_low_surrogate n) None _ s h.1) [
          | inl k ↦ absurd cc
          | inr k ↦
              let m = mapped (λ t. encode_utf8 n ++ t) (content plain xs) s k.1 in
              let one = IsUtf8-encode n (low_unit n p.4 h.0 k.0) in
              subst IsUtf8 m.2 (IsUtf8-append (encode_utf8 n) m.0 one (plain_utf8 xs [] m.0 rest m.1))
        ]
      ]

  -- h is a high surrogate
  pair_utf8 : (xs : List ℕ) (h : ℕ) (s : List ℕ) → 55296 ≤ h → h < 56320 → IsUtf8 xs
      → content (after_high h) xs ≡ some s → IsUtf8 s
  pair_utf8 [] h s low high u e = absurd cc
  pair_utf8 (y ∷ []) h s low high u e = absurd cc
  pair_utf8 (y ∷ z ∷ []) h s low high u e = absurd cc
  pair_utf8 (y ∷ z ∷ a ∷ []) h s low high u e = absurd cc
  pair_utf8 (y ∷ z ∷ a ∷ b ∷ []) h s low high u e = absurd cc
  pair_utf8 (y ∷ z ∷ a ∷ b ∷ c ∷ []) h s low high u e = absurd cc
  pair_utf8 (y ∷ z ∷ a ∷ b ∷ c ∷ d ∷ xs) h s low high u e = elim (branches ((y == 92) && (z == 117)) _ None s e) [
    | inr k ↦ absurd cc
    | inl k ↦
        let t = and_parts (y == 92) (z == 117) k.0 in
        let is_y = eqb-true y 92 t.0 in
        let is_z = eqb-true z 117 t.1 in
        let f = followed _ (code_unit a b c d) s k.1 in
        let n = f.0 in
        let p = unit_parts a b c d n f.1 in
        let at_z = tail_utf8 y (z ∷ a ∷ b ∷ c ∷ d ∷ xs) (omega arith) u in
        let at_a = tail_utf8 z (a ∷ b ∷ c ∷ d ∷ xs) (omega arith) at_z in
        let at_d = tail_utf8 c (d ∷ xs) p.2 (tail_utf8 b (c ∷ d ∷ xs) p.1 (tail_utf8 a (b ∷ c ∷ d ∷ xs) p.0 at_a)) in
        let rest = tail_utf8 d xs p.3 at_d in
        elim (branches (is_low_surrogate n) _ None s f.2) [
          | inr l ↦ absurd cc
          | inl l ↦
              let is_low = between 56320 57344 n l.0 in
              let both = surrogate_pair h n in
              let m = mapped (λ t. encode_utf8 both ++ t) (content plain xs) s l.1 in
              let one = IsUtf8-encode both (pair_scalar h n low high is_low.0 is_low.1) in
              subst IsUtf8 m.2 (IsUtf8-append (encode_utf8 both) m.0 one (plain_utf8 xs [] m.0 rest m.1))
        ]
  ]
