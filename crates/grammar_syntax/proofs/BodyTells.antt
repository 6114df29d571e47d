-- What the byte at a place tells of a quoted text that was read up to there.
use Rattle.std.proofs.Common.{◌≡◌, ℕ, suc, add-one, ◌+◌, ◌≤◌, ◌<◌, List, ◌∷◌, ◌++◌, refl, sym, ◌∙◌, ap, subst, arith, length, length-append, drop, get_or}
use Rattle.std.proofs.Math.Seq.{drop-cons}
use Rattle.std.proofs.lemmas.List.{drop-drop, length-drop}
use Rattle.grammar_syntax.specs.declared.token.TokenKind.{TokenKind}
use Rattle.grammar_syntax.specs.declared.piece.Escape.{Escape}
use Rattle.grammar_syntax.specs.Lexing.{NoToken}
use Rattle.grammar_syntax.specs.inner.Tokenizing.{NoEscape, IsFirstEscape, kind_with, IsFirst}
use Rattle.grammar_syntax.proofs.Bodies.{Passed, passed_byte, passed_escape, quoted_found, bad_escape, never_closed}
use Rattle.grammar_syntax.proofs.Parts.{past}

cut : (text : List ℕ) (at b : ℕ) → at < length text → get_or text at 0 ≡ b → drop at text ≡ b ∷ drop (suc at) text
cut text at b h e = drop-cons text at 0 h ∙ ap (λ (x : ℕ). x ∷ drop (suc at) text) e

at_cut : (text : List ℕ) (at b : ℕ) (kind : TokenKind) → at < length text → get_or text at 0 ≡ b → Passed at text (drop at text) kind → Passed at text (b ∷ drop (suc at) text) kind
at_cut text at b kind h e p = subst (λ (x : List ℕ). Passed at text x kind) (cut text at b h e) p

pub found_at : (text : List ℕ) (at : ℕ) (kind : TokenKind) → at < length text → get_or text at 0 ≡ 34 → Passed at text (drop at text) kind → IsFirst (record { kind = kind; len = at + 1 }) text
found_at text at kind h e p = quoted_found at text (drop (suc at) text) kind (at_cut text at 34 kind h e p)

pub bad_at : (text : List ℕ) (at : ℕ) (kind : TokenKind) → at < length text → get_or text at 0 ≡ 92 → NoEscape (drop at text) → Passed at text (drop at text) kind → NoToken text
bad_at text at kind h e n p = bad_escape at text (drop (suc at) text) kind (subst NoEscape (cut text at 92 h e) n) (at_cut text at 92 kind h e p)

pub ended_at : (text : List ℕ) (at : ℕ) (kind : TokenKind) → length text ≤ at → Passed at text (drop at text) kind → NoToken text
ended_at text at kind h p = never_closed at text (drop at text) kind (omega (arith, length-drop at text)) p

pub byte_at : (text : List ℕ) (at : ℕ) (kind : TokenKind) → at < length text → (get_or text at 0 ≡ 34 → ⊥) → (get_or text at 0 ≡ 92 → ⊥) → Passed at text (drop at text) kind → Passed (at + 1) text (drop (at + 1) text) kind
byte_at text at kind h n m p =
    subst (λ (k : ℕ). Passed (at + 1) text (drop k text) kind) (sym (add-one at))
    (passed_byte at (get_or text at 0) text (drop (suc at) text) kind n m (at_cut text at (get_or text at 0) kind h refl p))

pub escape_at : (text : List ℕ) (at : ℕ) (kind : TokenKind) (e : Escape) → IsFirstEscape e (drop at text) → Passed at text (drop at text) kind →
    Passed (at + e.len) text (drop (at + e.len) text) (kind_with kind e.piece)
escape_at text at kind e f p =
    let front = passed_escape at e.len e.piece text f.w f.rest kind f.is f.long (subst (λ (x : List ℕ). Passed at text x kind) f.cut p) in
    let rest : drop (at + e.len) text ≡ f.rest = sym (drop-drop e.len at text) ∙ (ap (λ (x : List ℕ). drop e.len x) f.cut ∙ (ap (λ (n : ℕ). drop n (f.w ++ f.rest)) (sym f.long) ∙ past f.w f.rest)) in
    subst (λ (x : List ℕ). Passed (at + e.len) text x (kind_with kind e.piece)) (sym rest) front

pub escape_within : (text : List ℕ) (at : ℕ) (e : Escape) → at ≤ length text → IsFirstEscape e (drop at text) → at + e.len ≤ length text
escape_within text at e h f = omega (arith, ap length f.cut, length-drop at text, length-append f.w f.rest, f.long)
