-- Whether a token begins a text.
use Rattle.std.proofs.Common.{◌≡◌, ◌⊎◌, ℕ, zero, suc, ◌+◌, ◌≤◌, List, [], ◌∷◌, ◌++◌, inl, inr, refl, ◌∙◌, ap, subst, arith, length, length-append, take, Option, Some, None, codes, nat_eq}
use Rattle.std.specs.List.{starts_with}
use Rattle.std.proofs.lemmas.Bool.{cases_Bool, cases_eq}
use Rattle.plain.specs.Words.{is_letter, is_digit, is_word_byte, run}
use Rattle.grammar_syntax.specs.declared.token.TokenKind.{TokenKind}
use Rattle.grammar_syntax.specs.declared.token.TokenKind.TheVariants.{Number, Text, PrincipalSlot, ResourceSlot}
use Rattle.grammar_syntax.specs.declared.token.ScannedToken.{ScannedToken}
use Rattle.grammar_syntax.specs.declared.piece.Piece.{Piece}
use Rattle.grammar_syntax.specs.Lexing.{kind_of_word, IsEscape, NoToken}
use Rattle.grammar_syntax.specs.inner.Tokenizing.{kind_with, IsFirst, ReportsToken, mark_of}
use Rattle.grammar_syntax.proofs.Escapes.{shaped}
use Rattle.grammar_syntax.proofs.FirstByte.{class_of_other}
use Rattle.grammar_syntax.proofs.FrontTells.{at_end, word_found, number_found, mark_tells}
use Rattle.grammar_syntax.proofs.Slots.{principal_found, resource_found, no_slot}
use Rattle.grammar_syntax.proofs.Bodies.{Passed, passed_quote, passed_byte, passed_escape, quoted_found, never_closed, bad_escape}
use Rattle.grammar_syntax.proofs.SomeEscape.{some_escape}

-- a longest token begins the text, or no token does
abbrev pub MayBegin : List ℕ → Type 0
MayBegin text = ((f : ScannedToken) × IsFirst f text) ⊎ NoToken text

-- behind an escape there is less
escape_long : (p : Piece) (w rest more : List ℕ) (n : ℕ) → IsEscape p w → rest ≡ w ++ more → length rest ≤ suc n → length more ≤ n
escape_long p w rest more n i e h =
    let s = shaped p w i in
    omega (arith, h, ap length e, length-append w more, ap length s.whole)

-- a quoted text that was read up to this place, with so many bytes left at most
in_body : (n at : ℕ) (text rest : List ℕ) (kind : TokenKind) → length rest ≤ n → Passed at text rest kind → MayBegin text
in_body n at text [] kind h p = inr (never_closed at text [] kind refl p)
in_body zero at text (b ∷ rest) kind h p = absurd (omega arith)
in_body (suc n) at text (b ∷ rest) kind h p = elim (cases_eq b 34) [
  | inl e ↦ inl (record { kind = kind; len = at + 1 }, quoted_found at text rest kind (subst (λ (x : ℕ). Passed at text (x ∷ rest) kind) e p))
  | inr no_quote ↦ elim (cases_eq b 92) [
    | inl e ↦ elim (some_escape rest) [
      | inl found ↦
          let f = found.1 in
          let whole : b ∷ rest ≡ f.w ++ f.rest = ap (λ (x : ℕ). x ∷ rest) e ∙ f.cut in
          in_body n (at + found.0.len) text f.rest (kind_with kind found.0.piece) (escape_long found.0.piece f.w (b ∷ rest) f.rest n f.is whole h)
          (passed_escape at found.0.len found.0.piece text f.w f.rest kind f.is f.long (subst (λ (x : List ℕ). Passed at text x kind) whole p))
      | inr none ↦ inr (bad_escape at text rest kind none (subst (λ (x : ℕ). Passed at text (x ∷ rest) kind) e p))
    ]
    | inr no_slash ↦ in_body n (at + 1) text rest kind (omega arith) (passed_byte at b text rest kind no_quote no_slash p)
  ]
]

some_slot : (text rest : List ℕ) → text ≡ codes "?" ++ rest → MayBegin text
some_slot text rest q = elim (cases_Bool (starts_with nat_eq text (codes "?principal"))) [
  | inl y ↦ inl (record { kind = PrincipalSlot; len = 10 }, principal_found text rest q y)
  | inr n ↦ elim (cases_Bool (starts_with nat_eq text (codes "?resource"))) [
    | inl y ↦ inl (record { kind = ResourceSlot; len = 9 }, resource_found text rest q n y)
    | inr m ↦ inr (no_slot text rest q n m)
  ]
]

as_told : (text : List ℕ) (o : Option ScannedToken) → ReportsToken text o → MayBegin text
as_told text None n = inr n
as_told text (Some f) i = inl (f, i)

pub some_token : (text : List ℕ) → MayBegin text
some_token [] = inr at_end
some_token (c ∷ cs) = elim (cases_Bool (is_letter c)) [
  | inl l ↦ inl (record { kind = kind_of_word (c ∷ take (run is_word_byte cs) cs); len = suc (run is_word_byte cs) }, word_found c cs l)
  | inr no_letter ↦ elim (cases_Bool (is_digit c)) [
    | inl d ↦ inl (record { kind = Number; len = suc (run is_digit cs) }, number_found c cs d)
    | inr no_digit ↦ elim (cases_eq c 34) [
      | inl e ↦ in_body (length cs) 1 (c ∷ cs) cs Text (omega arith) (passed_quote (c ∷ cs) cs (ap (λ (x : ℕ). x ∷ cs) e))
      | inr no_quote ↦ elim (cases_eq c 63) [
        | inl e ↦ some_slot (c ∷ cs) cs (ap (λ (x : ℕ). x ∷ cs) e)
        | inr no_question ↦ as_told (c ∷ cs) (mark_of (c ∷ cs)) (mark_tells c cs (class_of_other c no_letter no_digit no_quote no_question))
      ]
    ]
  ]
]
