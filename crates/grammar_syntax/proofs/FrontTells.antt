-- What a text begins with, by its first byte.
use Rattle.std.proofs.Common.{◌≡◌, ℕ, suc, ◌≤◌, true, List, [], ◌∷◌, ◌++◌, inl, inr, refl, sym, ◌∙◌, ap, subst, arith, length, take, drop, take-append-drop, Option, Some, None}
use Rattle.grammar_syntax.specs.declared.token.TokenKind.{TokenKind}
use Rattle.grammar_syntax.specs.declared.token.TokenKind.TheVariants.{Number}
use Rattle.grammar_syntax.specs.declared.token.ScannedToken.{ScannedToken}
use Rattle.plain.specs.Words.{is_letter, is_digit, is_word_byte, run}
use Rattle.grammar_syntax.specs.Lexing.{kind_of_word, listed, singles, pairs, IsToken, word, number, single, pair, NoToken}
use Rattle.grammar_syntax.specs.inner.Tokenizing.{IsFirst, ReportsToken, sized, first_found, mark_of}
use Rattle.plain.proofs.Runs.{run_all, run_most, run_within}
use Rattle.grammar_syntax.proofs.FirstByte.{Class, letters, digits, others, class, OfClass, class_of_letter, class_of_digit, of_class, not_empty}

-- A token that begins a text begins with its first byte, and is of that byte's class.
pub record Begins (k : TokenKind) (c : ℕ) (cs v more : List ℕ) : Type 0 where
  pub tail : List ℕ
  pub whole : v ≡ c ∷ tail
  pub rest : cs ≡ tail ++ more
  pub is : OfClass (class c) k (c ∷ tail)

pub begins : (k : TokenKind) (c : ℕ) (cs v more : List ℕ) → IsToken k v → c ∷ cs ≡ v ++ more → Begins k c cs v more
begins k c cs [] more t e = absurd (not_empty k t)
begins k c cs (x ∷ v) more t e =
    let same : x ≡ c = cc in
    let tail : cs ≡ v ++ more = cc in
    record { tail = v; whole = ap (λ (y : ℕ). y ∷ v) same; rest = tail; is = of_class k c v (subst (λ (y : ℕ). IsToken k (y ∷ v)) same t) }

pub at_end : NoToken []
at_end k [] more t e = not_empty k t
at_end k (x ∷ v) more t e = cc

-- a first byte of the class, and a token there
at_class : (a : Class) (k : TokenKind) (c : ℕ) (cs v more : List ℕ) → class c ≡ a → (b : Begins k c cs v more) → OfClass a k (c ∷ b.tail)
at_class a k c cs v more e b = subst (λ (x : Class). OfClass x k (c ∷ b.tail)) e b.is

word_longest : (c : ℕ) (cs : List ℕ) → is_letter c ≡ true → (j : TokenKind) (v more : List ℕ) → IsToken j v → c ∷ cs ≡ v ++ more → length v ≤ suc (run is_word_byte cs)
word_longest c cs l j v more t e =
    let b = begins j c cs v more t e in
    let o = at_class letters j c cs v more (class_of_letter c l) b in
    let most = run_most is_word_byte cs b.tail more o.0.1 b.rest in
    omega (arith, ap length b.whole)

number_longest : (c : ℕ) (cs : List ℕ) → is_digit c ≡ true → (j : TokenKind) (v more : List ℕ) → IsToken j v → c ∷ cs ≡ v ++ more → length v ≤ suc (run is_digit cs)
number_longest c cs l j v more t e =
    let b = begins j c cs v more t e in
    let o = at_class digits j c cs v more (class_of_digit c l) b in
    let most = run_most is_digit cs b.tail more o.0.1 b.rest in
    omega (arith, ap length b.whole)

joined : (n c : ℕ) (cs : List ℕ) → c ∷ cs ≡ (c ∷ take n cs) ++ drop n cs
joined n c cs = ap (λ (x : List ℕ). c ∷ x) (sym (take-append-drop n cs))

pub word_found : (c : ℕ) (cs : List ℕ) → is_letter c ≡ true → IsFirst (record { kind = kind_of_word (c ∷ take (run is_word_byte cs) cs); len = suc (run is_word_byte cs) }) (c ∷ cs)
word_found c cs l =
    let n = run is_word_byte cs in
    let long = run_within is_word_byte cs in
    record {
      w = c ∷ take n cs;
      rest = drop n cs;
      cut = joined n c cs;
      longest = record {
        is = word (l, run_all is_word_byte cs) refl;
        longest = λ j v more t e. let m = word_longest c cs l j v more t (joined n c cs ∙ e) in omega arith;
      };
      len = omega arith;
    }

pub number_found : (c : ℕ) (cs : List ℕ) → is_digit c ≡ true → IsFirst (record { kind = Number; len = suc (run is_digit cs) }) (c ∷ cs)
number_found c cs l =
    let n = run is_digit cs in
    let long = run_within is_digit cs in
    record {
      w = c ∷ take n cs;
      rest = drop n cs;
      cut = joined n c cs;
      longest = record {
        is = number (l, run_all is_digit cs) refl;
        longest = λ j v more t e. let m = number_longest c cs l j v more t (joined n c cs ∙ e) in omega arith;
      };
      len = omega arith;
    }

run_word : (c : ℕ) (cs : List ℕ) → is_letter c ≡ true → run is_word_byte (c ∷ cs) ≡ suc (run is_word_byte cs)
unfolding is_word_byte
run_word c cs l = rw l refl

-- what the code finds at a letter
pub word_tells : (c : ℕ) (cs : List ℕ) (k : TokenKind) (len : ℕ) → is_letter c ≡ true → len ≡ run is_word_byte (c ∷ cs) → k ≡ kind_of_word (take len (c ∷ cs)) →
    IsFirst (record { kind = k; len = len }) (c ∷ cs)
word_tells c cs k len l e f =
    let long = e ∙ run_word c cs l in
    let kinds : k ≡ kind_of_word (c ∷ take (run is_word_byte cs) cs) = f ∙ ap (λ (n : ℕ). kind_of_word (take n (c ∷ cs))) long in
    subst (λ (n : ℕ). IsFirst (record { kind = k; len = n }) (c ∷ cs)) (sym long)
    (subst (λ (x : TokenKind). IsFirst (record { kind = x; len = suc (run is_word_byte cs) }) (c ∷ cs)) (sym kinds) (word_found c cs l))

-- and at a digit
pub number_tells : (c : ℕ) (cs : List ℕ) (len : ℕ) → is_digit c ≡ true → len ≡ run is_digit (c ∷ cs) → IsFirst (record { kind = Number; len = len }) (c ∷ cs)
number_tells c cs len l e =
    let long : len ≡ suc (run is_digit cs) = e ∙ rw l refl in
    subst (λ (n : ℕ). IsFirst (record { kind = Number; len = n }) (c ∷ cs)) (sym long) (number_found c cs l)

-- a mark of two bytes is the longest token there
pair_found : (c d : ℕ) (rest : List ℕ) (k : TokenKind) → class c ≡ others → listed pairs (c ∷ d ∷ []) ≡ Some k → IsFirst (record { kind = k; len = 2 }) (c ∷ d ∷ rest)
pair_found c d rest k o l = record {
  w = c ∷ d ∷ [];
  rest = rest;
  cut = refl;
  longest = record {
    is = pair l;
    longest = λ j v more t e.
        let b = begins j c (d ∷ rest) v more t e in
        elim (at_class others j c (d ∷ rest) v more o b) [
          | inl s ↦ omega (arith, ap length b.whole, s.1)
          | inr p ↦ omega (arith, ap length b.whole, p.1)
        ];
  };
  len = refl;
}

-- no mark of two bytes begins with c and then what cs begins with
abbrev NoPair : ℕ → List ℕ → Type 0
NoPair c cs = (d : ℕ) (rest : List ℕ) → cs ≡ d ∷ rest → listed pairs (c ∷ d ∷ []) ≡ None

-- A list of two elements begins with the second.
two : (k j : TokenKind) (c : ℕ) (cs tail more : List ℕ) → NoPair c cs → cs ≡ tail ++ more → listed pairs (c ∷ tail) ≡ Some j → length (c ∷ tail) ≡ 2 → ⊥
two k j c cs [] more n e l long = omega arith
two k j c cs (d ∷ []) more n e l long = let none = n d more e in cc
two k j c cs (d ∷ x ∷ tail) more n e l long = omega arith

single_found : (c : ℕ) (cs : List ℕ) (k : TokenKind) → class c ≡ others → NoPair c cs → listed singles (c ∷ []) ≡ Some k → IsFirst (record { kind = k; len = 1 }) (c ∷ cs)
single_found c cs k o n l = record {
  w = c ∷ [];
  rest = cs;
  cut = refl;
  longest = record {
    is = single l;
    longest = λ j v more t e.
        let b = begins j c cs v more t e in
        elim (at_class others j c cs v more o b) [
          | inl s ↦ omega (arith, ap length b.whole, s.1)
          | inr p ↦ absurd (two k j c cs b.tail more n b.rest p.0 p.1)
        ];
  };
  len = refl;
}

one : (j : TokenKind) (c : ℕ) (tail : List ℕ) → listed singles (c ∷ []) ≡ None → listed singles (c ∷ tail) ≡ Some j → length (c ∷ tail) ≡ 1 → ⊥
one j c [] n l long = cc
one j c (x ∷ tail) n l long = omega arith

no_mark : (c : ℕ) (cs : List ℕ) → class c ≡ others → NoPair c cs → listed singles (c ∷ []) ≡ None → NoToken (c ∷ cs)
no_mark c cs o n l j v more t e =
    let b = begins j c cs v more t e in
    elim (at_class others j c cs v more o b) [
      | inl s ↦ one j c b.tail l s.0 s.1
      | inr p ↦ two j j c cs b.tail more n b.rest p.0 p.1
    ]

data Which : Option TokenKind → Type 0 where
  none : Which None
  some : (k : TokenKind) → Which (Some k)

which : (o : Option TokenKind) → Which o
which None = none
which (Some k) = some k

single_tells : (c : ℕ) (cs : List ℕ) → class c ≡ others → NoPair c cs → (o : Option TokenKind) → listed singles (c ∷ []) ≡ o → ReportsToken (c ∷ cs) (sized 1 o)
single_tells c cs o n None l = no_mark c cs o n l
single_tells c cs o n (Some k) l = single_found c cs k o n l

pair_tells : (c d : ℕ) (rest : List ℕ) → class c ≡ others → (o : Option TokenKind) → listed pairs (c ∷ d ∷ []) ≡ o → ReportsToken (c ∷ d ∷ rest) (first_found (sized 2 o) (sized 1 (listed singles (c ∷ []))))
pair_tells c d rest o None l = single_tells c (d ∷ rest) o (λ x more e. let same : d ≡ x = cc in subst (λ (y : ℕ). listed pairs (c ∷ y ∷ []) ≡ None) same l) (listed singles (c ∷ [])) refl
pair_tells c d rest o (Some k) l = pair_found c d rest k o l

-- and at any other byte that no slot and no quoted text begins with
pub mark_tells : (c : ℕ) (cs : List ℕ) → class c ≡ others → ReportsToken (c ∷ cs) (mark_of (c ∷ cs))
mark_tells c [] o = single_tells c [] o (λ d rest e. absurd (cc)) (listed singles (c ∷ [])) refl
mark_tells c (d ∷ rest) o = pair_tells c d rest o (listed pairs (c ∷ d ∷ [])) refl

-- a word at the front may be cut off: by the longest token there
pub word_at : (text rest : List ℕ) (c : ℕ) → text ≡ c ∷ rest → is_letter c ≡ true → IsFirst (record { kind = kind_of_word (take (run is_word_byte text) text); len = run is_word_byte text }) text
word_at text rest c e l = subst (λ (x : List ℕ). IsFirst (record { kind = kind_of_word (take (run is_word_byte x) x); len = run is_word_byte x }) x) (sym e)
    (word_tells c rest (kind_of_word (take (run is_word_byte (c ∷ rest)) (c ∷ rest))) (run is_word_byte (c ∷ rest)) l refl refl)

pub number_at : (text rest : List ℕ) (c len : ℕ) → text ≡ c ∷ rest → is_digit c ≡ true → len ≡ run is_digit text → IsFirst (record { kind = Number; len = len }) text
number_at text rest c len e l f = subst (λ (x : List ℕ). IsFirst (record { kind = Number; len = len }) x) (sym e) (number_tells c rest len l (f ∙ ap (run is_digit) e))

pub mark_at : (text rest : List ℕ) (c : ℕ) (r : Option ScannedToken) → text ≡ c ∷ rest → class c ≡ others → r ≡ mark_of text → ReportsToken text r
mark_at text rest c r e o f = subst (ReportsToken text) (sym f) (subst (λ (x : List ℕ). ReportsToken x (mark_of x)) (sym e) (mark_tells c rest o))

pub word_here : (text rest word : List ℕ) (c len : ℕ) (k : TokenKind) → text ≡ c ∷ rest → is_letter c ≡ true → len ≡ run is_word_byte text → word ≡ take len text → k ≡ kind_of_word word →
    IsFirst (record { kind = k; len = len }) text
word_here text rest w c len k e l n f g =
    let found = word_at text rest c e l in
    let sized = subst (λ (m : ℕ). IsFirst (record { kind = kind_of_word (take m text); len = m }) text) (sym n) found in
    subst (λ (x : TokenKind). IsFirst (record { kind = x; len = len }) text) (sym (g ∙ ap kind_of_word f)) sized
