-- What a text begins with after a backslash.
use Rattle.std.proofs.Common.{◌≡◌, ℕ, zero, ◌^◌, lit≤, suc, take-append-drop, ◌+◌, ◌*◌, ◌≤◌, ◌<◌, Bool, true, List, [], ◌∷◌, ◌++◌, refl, sym, ◌∙◌, ap, subst, arith, length, length-append, take, drop, get_or, Option, Some, None}
use Rattle.std.proofs.Math.Seq.{drop-cons}
use borrow.Author.Tests.{ltb-true}
use Rattle.std.specs.Option.{SomeIff, IsSome}
use Rattle.std.specs.Char.{IsScalar, digit_value}
use Rattle.grammar_syntax.specs.declared.piece.Piece.TheVariants.{Char, Star}
use Rattle.plain.specs.Words.{AllAre, run}
use Rattle.grammar_syntax.specs.Lexing.{escaped, is_hex, hex_after, letter, star, short, long}
use Rattle.grammar_syntax.specs.inner.Tokenizing.{NoEscape, IsFirstEscape}
use Rattle.std.proofs.lemmas.List.{length-take-le}
use Rattle.plain.proofs.Runs.{run_all}
use Rattle.grammar_syntax.proofs.Escapes.{Sort, letters, sort, Shape, goes, closed}

pub no_escape_at_end : NoEscape (92 ∷ []) → (rest : List ℕ) → length rest ≡ 0 → NoEscape (92 ∷ rest)
no_escape_at_end n [] e = n
no_escape_at_end n (x ∷ rest) e = absurd (omega arith)

pub letter_found : (b meant : ℕ) (rest : List ℕ) → escaped b ≡ Some meant → IsFirstEscape (record { piece = Char meant; len = 2 }) (92 ∷ b ∷ rest)
letter_found b meant rest e = record { w = 92 ∷ b ∷ []; rest = rest; cut = refl; is = letter b meant e refl refl; long = refl }

pub no_letter : (b : ℕ) (rest : List ℕ) → sort b ≡ letters → escaped b ≡ None → NoEscape (92 ∷ b ∷ rest)
no_letter b rest k n p w more i e =
    let g = goes p b rest w more i e in
    let s = subst (λ (x : Sort). Shape x p b g.tail) k g.shape in
    let known = s.known in cc

pub star_found : (rest : List ℕ) → IsFirstEscape (record { piece = Star; len = 2 }) (92 ∷ 42 ∷ rest)
star_found rest = record { w = 92 ∷ 42 ∷ []; rest = rest; cut = refl; is = star refl refl; long = refl }

pub short_found : (high low n : ℕ) (rest : List ℕ) → digit_value high < 8 → digit_value low < 16 → n ≡ digit_value high * 16 + digit_value low →
    IsFirstEscape (record { piece = Char n; len = 4 }) (92 ∷ 120 ∷ high ∷ low ∷ rest)
short_found high low n rest h l e = record { w = 92 ∷ 120 ∷ high ∷ low ∷ []; rest = rest; cut = refl; is = short high low h l refl (ap (λ (x : ℕ). Char x) e); long = refl }

pub no_short : (rest : List ℕ) → ((high low : ℕ) (more : List ℕ) → rest ≡ high ∷ low ∷ more → digit_value high < 8 → digit_value low < 16 → ⊥) → NoEscape (92 ∷ 120 ∷ rest)
no_short rest n p w more i e =
    let g = goes p 120 rest w more i e in
    let s = g.shape in
    n s.high s.low more (g.rest_is ∙ ap (λ (x : List ℕ). x ++ more) s.spelled) s.high_small s.low_small

pub no_long : (rest : List ℕ) → ((digits more : List ℕ) → rest ≡ 123 ∷ (digits ++ 125 ∷ more) → 1 ≤ length digits → length digits ≤ 6 → AllAre is_hex digits → IsScalar (hex_after 0 digits) → ⊥) →
    NoEscape (92 ∷ 117 ∷ rest)
no_long rest n p w more i e =
    let g = goes p 117 rest w more i e in
    let s = g.shape in
    n s.digits more (g.rest_is ∙ (ap (λ (x : List ℕ). x ++ more) s.spelled ∙ ap (λ (x : List ℕ). 123 ∷ x) (closed s.digits more))) s.some s.few s.hex s.scalar

brace_stops : (more : List ℕ) → run is_hex (125 ∷ more) ≡ 0
unfolding is_hex
brace_stops more = refl

run_stops : (ds more : List ℕ) → AllAre is_hex ds → run is_hex (ds ++ 125 ∷ more) ≡ length ds
run_stops [] more a = brace_stops more
run_stops (d ∷ ds) more a = rw a.0 (ap suc (run_stops ds more a.1))

front : (ds rest : List ℕ) → take (length ds) (ds ++ rest) ≡ ds
front [] rest = refl
front (d ∷ ds) rest = ap (λ (x : List ℕ). d ∷ x) (front ds rest)

next : (ds rest : List ℕ) (x d : ℕ) → get_or (ds ++ x ∷ rest) (length ds) d ≡ x
next [] rest x d = refl
next (y ∷ ds) rest x d = next ds rest x d

-- Hexadecimal digits and a closing brace, as the code finds them.
pub record Closed (r digits : List ℕ) (n : ℕ) : Type 0 where
  pub count : n ≡ length digits
  pub digits_are : take n r ≡ digits
  pub brace : (d : ℕ) → get_or r n d ≡ 125
  pub inside : n < length r

pub closes : (r digits more : List ℕ) (n : ℕ) → n ≡ run is_hex r → r ≡ digits ++ 125 ∷ more → AllAre is_hex digits → Closed r digits n
closes r digits more n e cut a =
    let count : n ≡ length digits = e ∙ (ap (run is_hex) cut ∙ run_stops digits more a) in
    record {
      count = count;
      digits_are = ap (λ (m : ℕ). take m r) count ∙ (ap (λ (x : List ℕ). take (length digits) x) cut ∙ front digits (125 ∷ more));
      brace = λ d. ap (λ (m : ℕ). get_or r m d) count ∙ (ap (λ (x : List ℕ). get_or x (length digits) d) cut ∙ next digits more 125 d);
      inside = omega (arith, ap length cut, length-append digits (125 ∷ more));
    }

-- The code's digits and brace are an escape.
pub long_found : (r : List ℕ) (n c : ℕ) → take n r ++ 125 ∷ drop (suc n) r ≡ r → length (take n r) ≡ n → 1 ≤ n → n ≤ 6 → AllAre is_hex (take n r) → c ≡ hex_after 0 (take n r) → IsScalar c →
    IsFirstEscape (record { piece = Char c; len = n + 4 }) (92 ∷ 117 ∷ 123 ∷ r)
long_found r n c cut count a z h e s =
    let digits = take n r in
    record {
      w = 92 ∷ 117 ∷ 123 ∷ (digits ++ 125 ∷ []);
      rest = drop (suc n) r;
      cut = ap (λ (x : List ℕ). 92 ∷ 117 ∷ 123 ∷ x) (sym cut ∙ sym (closed digits (drop (suc n) r)));
      is = long digits (omega (arith, count)) (omega (arith, count)) h (subst IsScalar e s) refl (ap (λ (x : ℕ). Char x) e);
      long = omega (arith, count, length-append digits (125 ∷ []));
    }

pub at_index : (p : ℕ → Bool) (xs : List ℕ) (k d : ℕ) → AllAre p xs → k < length xs → p (get_or xs k d) ≡ true
at_index p [] k d a h = absurd (omega arith)
at_index p (x ∷ xs) zero d a h = a.0
at_index p (x ∷ xs) (suc k) d a h = at_index p xs k d a.1 (omega arith)

pub hex_small : (c : ℕ) → is_hex c ≡ true → digit_value c < 16
unfolding is_hex
hex_small c e = ltb-true (digit_value c) 16 e

inner : {b : ℕ} {x y : List ℕ} → b ∷ x ≡ 123 ∷ y → x ≡ y
inner e = cc

-- where no digits in braces begin, no escape does
pub no_long_at : (rest r : List ℕ) (b n : ℕ) → rest ≡ b ∷ r → n ≡ run is_hex r →
    ((digits more : List ℕ) → Closed r digits n → 1 ≤ length digits → length digits ≤ 6 → IsScalar (hex_after 0 digits) → ⊥) → NoEscape (92 ∷ 117 ∷ rest)
no_long_at rest r b n e f k = no_long rest (λ digits more q a z h s.
    k digits more (closes r digits more n f (inner (sym e ∙ q)) h) a z s)

pub star_at : (text rest : List ℕ) (b : ℕ) → text ≡ 92 ∷ b ∷ rest → b ≡ 42 → IsFirstEscape (record { piece = Star; len = 2 }) text
star_at text rest b e f = subst (λ (x : List ℕ). IsFirstEscape (record { piece = Star; len = 2 }) x) (sym (e ∙ ap (λ (x : ℕ). 92 ∷ x ∷ rest) f)) (star_found rest)

pub letter_at : (text rest : List ℕ) (b meant : ℕ) → text ≡ 92 ∷ b ∷ rest → escaped b ≡ Some meant → IsFirstEscape (record { piece = Char meant; len = 2 }) text
letter_at text rest b meant e f = subst (λ (x : List ℕ). IsFirstEscape (record { piece = Char meant; len = 2 }) x) (sym e) (letter_found b meant rest f)

-- the front of a text, taken apart twice
pub opened : (text rest one last : List ℕ) (s b : ℕ) → text ≡ 92 ∷ rest → text ≡ s ∷ one → one ≡ b ∷ last → text ≡ 92 ∷ b ∷ last
opened text rest one last s b e f g =
    let same : s ≡ 92 = cc in
    f ∙ (ap (λ (x : ℕ). x ∷ one) same ∙ ap (λ (x : List ℕ). 92 ∷ x) g)

pub run_front : (r : List ℕ) (n d : ℕ) → n < length r → get_or r n d ≡ 125 → take n r ++ 125 ∷ drop (suc n) r ≡ r
run_front r n d h e =
    ap (λ (x : ℕ). take n r ++ x ∷ drop (suc n) r) (sym e) ∙ (ap (λ (x : List ℕ). take n r ++ x) (sym (drop-cons r n d h)) ∙ take-append-drop n r)

pub some_if : {P : Type 0} (o : Option ℕ) (v : ℕ) → SomeIff o P v → P → IsSome o
some_if None v n p = absurd (n p)
some_if (Some x) v h p = refl

pub pow_small : (i : ℕ) → i < 6 → 16 ^ i ≤ 1048576
pow_small zero h = lit≤ tt
pow_small (suc zero) h = lit≤ tt
pow_small (suc (suc zero)) h = lit≤ tt
pow_small (suc (suc (suc zero))) h = lit≤ tt
pow_small (suc (suc (suc (suc zero)))) h = lit≤ tt
pow_small (suc (suc (suc (suc (suc zero))))) h = lit≤ tt
pow_small (suc (suc (suc (suc (suc (suc i)))))) h = absurd (omega arith)

pub short_at : (text rest : List ℕ) (high low h l : ℕ) → text ≡ high ∷ low ∷ rest → h ≡ digit_value high → l ≡ digit_value low → h < 8 → digit_value low < 16 →
    IsFirstEscape (record { piece = Char (h * 16 + l); len = 4 }) (92 ∷ 120 ∷ text)
short_at text rest high low h l e p q up small =
    subst (λ (x : List ℕ). IsFirstEscape (record { piece = Char (h * 16 + l); len = 4 }) (92 ∷ 120 ∷ x)) (sym e)
    (short_found high low (h * 16 + l) rest (omega arith) small (ap (λ (x : ℕ). x * 16 + l) p ∙ ap (λ (x : ℕ). digit_value high * 16 + x) q))

-- The code's digits in braces are an escape of the text.
pub long_at : (rest r : List ℕ) (b n c : ℕ) → rest ≡ b ∷ r → b ≡ 123 → n ≡ run is_hex r → n < length r → get_or r n 0 ≡ 125 → 0 < n → n ≤ 6 →
    c ≡ hex_after 0 (take n r) → IsScalar c → IsFirstEscape (record { piece = Char c; len = n + 4 }) (92 ∷ 117 ∷ rest)
long_at rest r b n c e f count inside brace some few value scalar =
    let all : AllAre is_hex (take n r) = subst (λ (m : ℕ). AllAre is_hex (take m r)) (sym count) (run_all is_hex r) in
    let found = long_found r n c (run_front r n 0 inside brace) (length-take-le n r (omega arith)) some few all value scalar in
    subst (λ (x : List ℕ). IsFirstEscape (record { piece = Char c; len = n + 4 }) (92 ∷ 117 ∷ x)) (ap (λ (x : ℕ). x ∷ r) (sym f) ∙ sym e) found

pub some_value : (P : Type 0) (o : Option ℕ) (v x : ℕ) → SomeIff o P v → o ≡ Some x → x ≡ v
some_value P None v x h e = absurd (cc)
some_value P (Some y) v x h e = let same : y ≡ x = cc in sym same ∙ h.1
