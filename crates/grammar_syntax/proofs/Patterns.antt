-- What a whole body stands for, as a value and as a pattern.
use Rattle.std.proofs.Common.{◌≡◌, ℕ, Bool, true, false, List, [], ◌∷◌, ◌++◌, inl, inr, refl, sym, ◌∙◌, ap, subst, arith, drop, if◌then◌else◌}
use Rattle.std.proofs.lemmas.Bool.{cases_Bool}
use Rattle.std.proofs.lemmas.List.{append_assoc, append-nil}
use Rattle.grammar_syntax.specs.declared.piece.Piece.{Piece}
use Rattle.grammar_syntax.specs.declared.piece.Piece.TheVariants.{Byte}
use Rattle.grammar_syntax.specs.declared.token.TokenKind.{TokenKind}
use Rattle.grammar_syntax.specs.declared.token.TokenKind.TheVariants.{Text, StarText}
use Rattle.grammar_syntax.specs.Lexing.{IsBody, done, itself, escape, has_star, IsToken}
use Rattle.grammar_syntax.specs.inner.Tokenizing.{EndsLiteral, IsLiteral}
use Rattle.grammar_syntax.specs.Strings.{is_string, piece_bytes, bytes_of, is_wildcard, literals_of, prefixed, IsStringOf, IsPatternOf, HasValue, HasPattern}
use Rattle.grammar_syntax.proofs.Bodies.{body_append, slash}
use Rattle.grammar_syntax.proofs.Between.{between, body_in}
use Rattle.grammar_syntax.proofs.Literals.{any_wildcard}
use Rattle.grammar_syntax.proofs.OneWay.{same_body}
use Rattle.grammar_syntax.proofs.Parts.{heads, negated, nothing, tails}

ended : (xs : List ℕ) → EndsLiteral false xs → xs ≡ []
ended [] h = refl
ended (x ∷ xs) h = let f = h.0 in absurd (cc)

no_star : (b : Bool) → Text ≡ (if b then StarText else Text) → b ≡ false
no_star true e = absurd (cc)
no_star false e = refl

-- a body that was read up to its end
front_whole : (front body rest : List ℕ) → body ≡ front ++ rest → rest ≡ [] → front ≡ body
front_whole front body rest e n = sym (e ∙ (ap (λ (x : List ℕ). front ++ x) n ∙ append-nil front))

pub string_of : (k : TokenKind) (w body value : List ℕ) (len : ℕ) → IsToken k w → k ≡ Text → w ≡ 34 ∷ (body ++ 34 ∷ []) → IsLiteral false value len body → IsStringOf value w
string_of k w body value len t s e l =
    let d = l.read in
    let whole : d.front ≡ body = front_whole d.front body (drop len body) d.cut (ended (drop len body) l.ends) in
    let b = body_in k w body t (ap is_string s) e in
    let same : b.pieces ≡ d.pieces = same_body b.is d.is (sym whole) in
    record {
      pieces = d.pieces;
      body = body;
      is = subst (IsBody d.pieces) whole d.is;
      spelled = e;
      no_star = ap has_star (sym same) ∙ no_star (has_star b.pieces) (sym s ∙ b.kind);
      value_is = d.value_is;
    }

prefixed_twice : (v w : List ℕ) (xs : List (List ℕ)) → prefixed v (prefixed w xs) ≡ prefixed (v ++ w) xs
prefixed_twice v w [] = refl
prefixed_twice v w (x ∷ xs) = ap (λ (y : List ℕ). y ∷ xs) (sym (append_assoc v w x))

prefixed_none : (w : List ℕ) (xs : List (List ℕ)) → prefixed [] (prefixed w xs) ≡ prefixed w xs
prefixed_none w xs = prefixed_twice [] w xs

literals_none : (qs : List Piece) → prefixed [] (literals_of qs) ≡ literals_of qs
literals_none [] = refl
literals_none (q ∷ qs) = elim (cases_Bool (is_wildcard q)) [
  | inl y ↦ rw y refl
  | inr n ↦ rw n (prefixed_none (piece_bytes q) (literals_of qs))
]

literals-append : (ps qs : List Piece) → any_wildcard ps ≡ false → literals_of (ps ++ qs) ≡ prefixed (bytes_of ps) (literals_of qs)
literals-append [] qs h = sym (literals_none qs)
literals-append (p ∷ ps) qs h = elim (cases_Bool (is_wildcard p)) [
  | inl y ↦ let f : true ≡ false = rw y at h in absurd (cc)
  | inr n ↦
      let g : any_wildcard ps ≡ false = rw n at h in
      rw n (ap (λ (x : List (List ℕ)). prefixed (piece_bytes p) x) (literals-append ps qs g) ∙ prefixed_twice (piece_bytes p) (bytes_of ps) (literals_of qs))
]

-- literal pieces before a wildcard
literals_wild : (ps qs : List Piece) → any_wildcard ps ≡ false → literals_of (ps ++ Byte 42 ∷ qs) ≡ bytes_of ps ∷ literals_of qs
literals_wild ps qs h = literals-append ps (Byte 42 ∷ qs) h ∙ ap (λ (x : List ℕ). x ∷ literals_of qs) (append-nil (bytes_of ps))

-- and alone
literals_end : (ps : List Piece) → any_wildcard ps ≡ false → literals_of ps ≡ bytes_of ps ∷ []
literals_end ps h = ap literals_of (sym (append-nil ps)) ∙ (literals-append ps [] h ∙ ap (λ (x : List ℕ). x ∷ []) (append-nil (bytes_of ps)))

-- These are the literal texts up to a wildcard, and the rest of the body follows it.
pub record IsSplit (literals : List (List ℕ)) (body rest : List ℕ) : Type 0 where
  pub pieces : List Piece
  pub is : IsBody pieces body
  pub left : List Piece
  pub behind : IsBody left rest
  pub literals_are : literals_of pieces ≡ literals ++ literals_of left

pub start_split : (literals : List (List ℕ)) (ps : List Piece) (body : List ℕ) → literals ≡ [] → IsBody ps body → IsSplit literals body body
start_split literals ps body e i = record { pieces = ps; is = i; left = ps; behind = i; literals_are = ap (λ (x : List (List ℕ)). x ++ literals_of ps) (sym e) }

pub split_body : (literals : List (List ℕ)) (body rest : List ℕ) → IsSplit literals body rest → (ps : List Piece) × IsBody ps rest
split_body literals body rest s = (s.left, s.behind)

not_slash : (a b : ℕ) → a ≡ 42 → b ≡ 92 → a ≡ b → ⊥
not_slash a b e f g = omega arith

-- a body that begins with a star goes on behind it
record Starred (ps : List Piece) (rest : List ℕ) : Type 0 where
  left : List Piece
  whole : ps ≡ Byte 42 ∷ left
  behind : IsBody left rest

starred : {ps : List Piece} {w : List ℕ} (rest : List ℕ) → IsBody ps w → w ≡ 42 ∷ rest → Starred ps rest
starred rest done e = absurd (nothing 42 rest e)
starred rest (itself {b = b} {ps = ps} {w = w} n m i) e = record { left = ps; whole = ap (λ (x : ℕ). Byte x ∷ ps) (heads b 42 w rest e); behind = subst (IsBody ps) (tails b 42 w rest e) i }
starred rest (escape {p = p} x v i s h) e = let t = slash p x v i in absurd (not_slash 42 92 refl refl (heads 42 92 rest t.0 (sym e ∙ (s ∙ t.1))))

-- no wildcard where a literal text ends
pub no_wildcard : (tail : List ℕ) → EndsLiteral true tail → ((more : List ℕ) → tail ≡ 42 ∷ more → ⊥) → tail ≡ []
no_wildcard [] h n = refl
no_wildcard (x ∷ tail) h n = absurd (n tail (ap (λ (y : ℕ). y ∷ tail) h.1))

pub split_more : (literals grown : List (List ℕ)) (body rest behind value : List ℕ) (len : ℕ) → IsLiteral true value len rest → drop len rest ≡ 42 ∷ behind → grown ≡ literals ++ value ∷ [] → IsSplit literals body rest →
    IsSplit grown body behind
split_more literals grown body rest behind value len l e g s =
    let d = l.read in
    let w = starred behind d.behind e in
    let same : s.left ≡ d.pieces ++ d.left = same_body s.behind (body_append d.is d.behind) d.cut in
    let split : literals_of s.left ≡ value ∷ literals_of w.left =
    ap literals_of (same ∙ ap (λ (x : List Piece). d.pieces ++ x) w.whole) ∙ (literals_wild d.pieces w.left (negated (any_wildcard d.pieces) d.literal) ∙ ap (λ (x : List ℕ). x ∷ literals_of w.left) (sym d.value_is)) in
    record {
      pieces = s.pieces;
      is = s.is;
      left = w.left;
      behind = w.behind;
      literals_are = s.literals_are ∙ (ap (λ (x : List (List ℕ)). literals ++ x) split ∙ (sym (append_assoc literals (value ∷ []) (literals_of w.left)) ∙ ap (λ (x : List (List ℕ)). x ++ literals_of w.left) (sym g)));
    }

pub pattern_of : (literals grown : List (List ℕ)) (w body rest value : List ℕ) (len : ℕ) → w ≡ 34 ∷ (body ++ 34 ∷ []) → IsLiteral true value len rest → drop len rest ≡ [] → grown ≡ literals ++ value ∷ [] →
    IsSplit literals body rest → IsPatternOf grown w
pattern_of literals grown w body rest value len e l none g s =
    let d = l.read in
    let same : s.left ≡ d.pieces = same_body s.behind d.is (sym (front_whole d.front rest (drop len rest) d.cut none)) in
    let split : literals_of s.left ≡ value ∷ [] = ap literals_of same ∙ (literals_end d.pieces (negated (any_wildcard d.pieces) d.literal) ∙ ap (λ (x : List ℕ). x ∷ []) (sym d.value_is)) in
    record {
      pieces = s.pieces;
      body = body;
      is = s.is;
      spelled = e;
      literals_are = g ∙ (ap (λ (x : List (List ℕ)). literals ++ x) (sym split) ∙ sym s.literals_are);
    }

pub has_value : HasValue
has_value spelling t =
    let b = between Text spelling t refl in
    (bytes_of b.pieces, record { pieces = b.pieces; body = b.body; is = b.is; spelled = b.spelled; no_star = no_star (has_star b.pieces) b.kind; value_is = refl })

pub has_pattern : HasPattern
has_pattern k spelling t h =
    let b = between k spelling t h in
    (literals_of b.pieces, record { pieces = b.pieces; body = b.body; is = b.is; spelled = b.spelled; literals_are = refl })
