-- The tokens from the first that starts at a byte.
use Rattle.std.proofs.Common.{◌≡◌, ℕ, suc, ◌+◌, ◌<◌, ◌≤◌, ◌==◌, List, [], ◌∷◌, length, drop, get_or, true, false, Bool, cond, not, ltb, Some, None, sym, ap, ◌∙◌, arith}
use Rattle.std.specs.List.{position_or_len, prefix_len}
use Rattle.std.specs.Option.{unwrap_or}
use Rattle.std.proofs.lemmas.Bool.Decides.{nat_tests, Decides-eqb}
use Rattle.std.proofs.lemmas.List.{drop-drop, drop_all}
use Rattle.std.proofs.lemmas.List.Sums.{prefix_len-drop_yes, prefix_len-drop_no}
use Rattle.grammar_syntax.specs.declared.token.Token.{Token}
use Rattle.fault_places.specs.Places.{from_byte}

-- the tokens from a byte on, by the number of tokens before
no_more : (b : Bool) (m n : ℕ) → m ≤ n → cond b (1 + m) 0 ≤ suc n
no_more true m n h = omega arith
no_more false m n h = omega arith

first-le : (p : Token → Bool) (ts : List Token) → position_or_len p ts ≤ length ts
first-le p [] = omega arith
first-le p (t ∷ ts) = no_more (not (p t)) (position_or_len p ts) (length ts) (first-le p ts)

or_all : (m n : ℕ) → m ≤ n → unwrap_or (cond (ltb m n) (Some m) None) n ≡ m
or_all m n h = grind (arith, nat_tests)

cut : (at : ℕ) (ts : List Token) → from_byte at ts ≡ drop (position_or_len (λ t. t.start == at) ts) ts
cut at ts = ap (λ k. drop k ts) (or_all (position_or_len (λ t. t.start == at) ts) (length ts) (first-le (λ t. t.start == at) ts))

-- the token there starts at the byte, or another one
other_start : (s at : ℕ) → (s ≡ at → ⊥) → (s == at) ≡ false
other_start s at other = grind (arith, nat_tests)

pub found-here : (at : ℕ) (ts : List Token) (i : ℕ) (d : Token) → i < length ts → (get_or ts i d).start ≡ at → drop i ts ≡ from_byte at (drop i ts)
found-here at ts i d below here =
    let test : not ((get_or ts i d).start == at) ≡ false = ap not ((Decides-eqb (get_or ts i d).start at).1 here) in
    sym (cut at (drop i ts) ∙ ap (λ k. drop k (drop i ts)) (prefix_len-drop_no (λ x. not (x.start == at)) ts i d below test))

pub found-later : (at : ℕ) (ts : List Token) (i : ℕ) (d : Token) → i < length ts → ((get_or ts i d).start ≡ at → ⊥)
    → from_byte at (drop (i + 1) ts) ≡ from_byte at (drop i ts)
found-later at ts i d below other =
    let n = position_or_len (λ x. x.start == at) (drop (i + 1) ts) in
    let test : not ((get_or ts i d).start == at) ≡ true = ap not (other_start (get_or ts i d).start at other) in
    let same : (i + 1) + n ≡ i + (1 + n) = omega arith in
    cut at (drop (i + 1) ts) ∙ drop-drop n (i + 1) ts ∙ ap (λ k. drop k ts) same ∙ sym (drop-drop (1 + n) i ts)
    ∙ ap (λ k. drop k (drop i ts)) (sym (prefix_len-drop_yes (λ x. not (x.start == at)) ts i d below test))
    ∙ sym (cut at (drop i ts))

pub found-nowhere : (at : ℕ) (ts : List Token) (i : ℕ) → length ts ≤ i → drop i ts ≡ from_byte at (drop i ts)
found-nowhere at ts i past = let none = drop_all i ts past in none ∙ ap (from_byte at) (sym none)
