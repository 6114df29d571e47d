-- The tokens of a text start one behind the other, so the one that starts at a byte is found.
use Rattle.std.proofs.Common.{◌≡◌, ℕ, suc, ◌+◌, ◌≤◌, ◌<◌, ◌==◌, ◌++◌, List, [], ◌∷◌, length, drop, false, Bool, cond, not, Some, None, refl, sym, ap, ◌∙◌, subst, arith, length-append}
use Rattle.std.specs.List.{position, position_or_len}
use Rattle.std.specs.Option.{unwrap_or}
use Rattle.std.proofs.lemmas.Bool.{lt-ltb}
use Rattle.std.proofs.lemmas.Bool.Decides.{Decides-eqb}
use Rattle.std.proofs.Math.Seq.{drop-append_seam}
use Rattle.grammar_syntax.specs.declared.token.Token.{Token}
use Rattle.grammar_syntax.specs.declared.token.TokenKind.{TokenKind}
use Rattle.grammar_syntax.specs.Lexing.{IsToken, IsLexed, Lex, finish, gap, token}
use Rattle.grammar_syntax.proofs.FirstByte.{not_empty}
use Rattle.fault_places.specs.Places.{from_byte}

-- the tokens start at n or later, each behind the ones before it
abbrev Later : ℕ → List Token → Type 0
Later n [] = Unit {0}
Later n (t ∷ ts) = (n ≤ t.start) × Later (suc t.start) ts

has_length : (k : TokenKind) (w : List ℕ) → IsToken k w → 0 < length w
has_length k [] t = absurd (not_empty k t)
has_length k (x ∷ w) t = omega arith

lex_later : {at to : ℕ} {text left : List ℕ} {ts : List Token} (n : ℕ) → n ≤ at → Lex at text ts to left → Later n ts
lex_later n h finish = tt
lex_later {at} n h (gap w rest e g more) = lex_later {at = at + length w} n (omega arith) more
lex_later {at} n h (token k w rest e is more) =
    let some = has_length k w is.is in (h, lex_later {at = at + length w} (suc at) (omega arith) more)

later_start : (n : ℕ) (front : List Token) (x : Token) (back : List Token) → Later n (front ++ x ∷ back) → n ≤ x.start
later_start n [] x back l = l.0
later_start n (t ∷ front) x back l = let h = later_start (suc t.start) front x back l.1 in let g = l.0 in omega arith

-- the first token that starts where x does is x
other_start : (s at : ℕ) → s < at → (s == at) ≡ false
other_start s at less = grind arith

position_is : (n : ℕ) (front : List Token) (x : Token) (back : List Token) → Later n (front ++ x ∷ back)
    → position_or_len (λ t. t.start == x.start) (front ++ x ∷ back) ≡ length front
position_is n [] x back l =
    ap (λ b. cond (not b) (1 + position_or_len (λ t. t.start == x.start) back) 0) ((Decides-eqb x.start x.start).1 refl)
position_is n (t ∷ front) x back l =
    let h = later_start (suc t.start) front x back l.1 in
    ap (λ b. cond (not b) (1 + position_or_len (λ u. u.start == x.start) (front ++ x ∷ back)) 0)
    (other_start t.start x.start (omega arith))
    ∙ ap (λ k. 1 + k) (position_is (suc t.start) front x back l.1) ∙ omega arith

found_at : {A : Type 0} (p : A → Bool) (xs : List A) (n : ℕ) → position_or_len p xs ≡ n → n < length xs
    → unwrap_or (position p xs) (length xs) ≡ n
found_at p xs n e less =
    ap (λ b. unwrap_or (cond b (Some (position_or_len p xs)) None) (length xs))
    (lt-ltb (position_or_len p xs) (length xs) (subst (λ k. k < length xs) (sym e) less))
    ∙ e

shorter : (front : List Token) (x : Token) (back : List Token) → length front < length (front ++ x ∷ back)
shorter front x back = let l = length-append front (x ∷ back) in omega arith

pub from_byte-is : (text : List ℕ) (front : List Token) (x : Token) (back : List Token) → IsLexed text (front ++ x ∷ back)
    → from_byte x.start (front ++ x ∷ back) ≡ x ∷ back
from_byte-is text front x back lexed =
    let l = lex_later {at = 0} 0 (omega arith) lexed.1 in
    ap (λ n. drop n (front ++ x ∷ back))
    (found_at (λ t. t.start == x.start) (front ++ x ∷ back) (length front) (position_is 0 front x back l)
    (shorter front x back))
    ∙ drop-append_seam front (x ∷ back)
