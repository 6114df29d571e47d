-- The slots at the front of a text.
use Rattle.std.proofs.Common.{◌≡◌, ℕ, true, false, List, ◌∷◌, ◌++◌, ◌⊎◌, inl, inr, refl, sym, ◌∙◌, ap, subst, arith, length, take, drop, take-append-drop, Some, None, codes, nat_eq}
use Rattle.std.specs.List.{starts_with}
use Rattle.std.specs.Str.{bytes_eq}
use Rattle.std.specs.Cmp.Lexicographic.{same_text, other_text}
use Rattle.std.proofs.Math.Seq.{take-append_seam}
use Rattle.std.proofs.lemmas.Bool.{cases_Bool}
use Rattle.grammar_syntax.specs.declared.token.TokenKind.{TokenKind}
use Rattle.grammar_syntax.specs.declared.token.TokenKind.TheVariants.{PrincipalSlot, ResourceSlot}
use Rattle.plain.specs.Words.{is_letter, is_digit}
use Rattle.grammar_syntax.specs.Lexing.{listed, slots, IsToken, slot, NoToken}
use Rattle.grammar_syntax.specs.inner.Tokenizing.{IsFirst}
use Rattle.grammar_syntax.proofs.FirstByte.{class, OfClass}
use Rattle.grammar_syntax.proofs.FrontTells.{begins}

pub prefix : (text s : List ℕ) → starts_with nat_eq text s ≡ true → text ≡ s ++ drop (length s) text
prefix text s h = sym (take-append-drop (length s) text) ∙ ap (λ (x : List ℕ). x ++ drop (length s) text) (sym (same_text s (take (length s) text) (sym h)))

pub no_prefix : (text s : List ℕ) → starts_with nat_eq text s ≡ false → (more : List ℕ) → text ≡ s ++ more → ⊥
no_prefix text s h more e = other_text s (take (length s) text) (sym h) (sym (ap (λ (x : List ℕ). take (length s) x) e ∙ take-append_seam s more))

abbrev IsSlot : List ℕ → Type 0
IsSlot w = (w ≡ codes "?principal") ⊎ (w ≡ codes "?resource")

slot_cases : (w : List ℕ) (k : TokenKind) → listed slots w ≡ Some k → IsSlot w
slot_cases w k h = elim (cases_Bool (bytes_eq (codes "?principal") w)) [
  | inl y ↦ inl (sym (same_text (codes "?principal") w (sym y)))
  | inr n ↦ elim (cases_Bool (bytes_eq (codes "?resource") w)) [
    | inl y ↦ inr (sym (same_text (codes "?resource") w (sym y)))
    | inr m ↦ let none : listed slots w ≡ None = rw (n, m) refl in absurd (cc)
  ]
]

of_question : (k : TokenKind) (v : List ℕ) → OfClass (class 63) k (63 ∷ v) → listed slots (63 ∷ v) ≡ Some k
unfolding is_letter is_digit
of_question k v o = o

-- a token at a question mark is one of the slots
at_question : (rest text v more : List ℕ) (k : TokenKind) → text ≡ codes "?" ++ rest → IsToken k v → text ≡ v ++ more → IsSlot v
at_question rest text v more k q t e =
    let b = begins k 63 rest v more t (sym q ∙ e) in
    subst IsSlot (sym b.whole) (slot_cases (63 ∷ b.tail) k (of_question k b.tail b.is))

pub principal_found : (text rest : List ℕ) → text ≡ codes "?" ++ rest → starts_with nat_eq text (codes "?principal") ≡ true → IsFirst (record { kind = PrincipalSlot; len = 10 }) text
principal_found text rest q h = record {
  w = codes "?principal";
  rest = drop 10 text;
  cut = prefix text (codes "?principal") h;
  longest = record {
    is = slot refl;
    longest = λ j v more t e.
        elim (at_question rest text v more j q t (prefix text (codes "?principal") h ∙ e)) [
          | inl p ↦ omega (arith, ap length p)
          | inr r ↦ omega (arith, ap length r)
        ];
  };
  len = refl;
}

pub resource_found : (text rest : List ℕ) → text ≡ codes "?" ++ rest → starts_with nat_eq text (codes "?principal") ≡ false → starts_with nat_eq text (codes "?resource") ≡ true →
    IsFirst (record { kind = ResourceSlot; len = 9 }) text
resource_found text rest q n h = record {
  w = codes "?resource";
  rest = drop 9 text;
  cut = prefix text (codes "?resource") h;
  longest = record {
    is = slot refl;
    longest = λ j v more t e.
        elim (at_question rest text v more j q t (prefix text (codes "?resource") h ∙ e)) [
          | inl p ↦ absurd (no_prefix text (codes "?principal") n more (prefix text (codes "?resource") h ∙ (e ∙ ap (λ (x : List ℕ). x ++ more) p)))
          | inr r ↦ omega (arith, ap length r)
        ];
  };
  len = refl;
}

pub no_slot : (text rest : List ℕ) → text ≡ codes "?" ++ rest → starts_with nat_eq text (codes "?principal") ≡ false → starts_with nat_eq text (codes "?resource") ≡ false → NoToken text
no_slot text rest q n m j v more t e =
    elim (at_question rest text v more j q t e) [
      | inl p ↦ no_prefix text (codes "?principal") n more (e ∙ ap (λ (x : List ℕ). x ++ more) p)
      | inr r ↦ no_prefix text (codes "?resource") m more (e ∙ ap (λ (x : List ℕ). x ++ more) r)
    ]
