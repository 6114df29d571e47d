-- Segments that are appended one after the other.
use Rattle.std.proofs.Common.{◌≡◌, ◌∙◌, ◌==◌, ℕ, true, false, List, [], ◌∷◌, ◌++◌, length, map, append_assoc, append-nil, encode_utf8, encode_utf8_all}
use Rattle.std.proofs.Common.{refl, sym, ap, Result, Ok, Err, OnOk, is_ok, if◌then◌else◌}
use Rattle.std.proofs.lemmas.Str.{encodes-append}
use Rattle.std.proofs.lemmas.List.{map-append}
use Rattle.explanations.specs.ExplanationText.{cut_text, framed}

-- what follows if a text is appended
pub on_pushed : {T E Q : Type 0} (r : Result T E) (old more new : List ℕ) → new ≡ (if is_ok r then old ++ more else old) → (new ≡ old ++ more → Q) → OnOk r Q
on_pushed (Ok v) old more new h so = so h
on_pushed (Err e) old more new h so = tt

-- one character more
pub mapped_more : (f : ℕ → ℕ) (cs : List ℕ) (c d : ℕ) (start old new : List ℕ) → old ≡ start ++ encode_utf8_all (map f cs) → d ≡ f c → new ≡ old ++ encode_utf8 d
    → new ≡ start ++ encode_utf8_all (map f (cs ++ c ∷ []))
mapped_more f cs c d start old new before is more =
    more ∙ ap (λ (l : List ℕ). l ++ encode_utf8 d) before ∙ append_assoc start (encode_utf8_all (map f cs)) (encode_utf8 d)
    ∙ ap (λ (l : List ℕ). start ++ l) (
    ap (λ (l : List ℕ). encode_utf8_all (map f cs) ++ l) (ap encode_utf8 is ∙ sym (append-nil (encode_utf8 (f c))))
    ∙ sym (encodes-append (map f cs) (f c ∷ []))
    ∙ ap encode_utf8_all (sym (map-append f cs (c ∷ []))))

-- three segments, of which the second is two
three : (out a b c d o p q r : List ℕ) → o ≡ out ++ a → p ≡ o ++ b → q ≡ p ++ c → r ≡ q ++ d → r ≡ out ++ ((a ++ (b ++ c)) ++ d)
three out a b c d o p q r first second third fourth = rw fourth rw third rw second rw first (simp append_assoc refl)

-- a framed text that is not empty
pub framed_as : (before text after : List ℕ) (most : ℕ) (shown mark out o p q r : List ℕ) → false ≡ (length text == 0) → shown ++ mark ≡ cut_text text most
    → o ≡ out ++ before → p ≡ o ++ shown → q ≡ p ++ mark → r ≡ q ++ after → r ≡ out ++ framed before text most after
framed_as before [] after most shown mark out o p q r some is first second third fourth = absurd (apart some)
  where
    apart : false ≡ true → ⊥
    apart e = cc
framed_as before (x ∷ xs) after most shown mark out o p q r some is first second third fourth =
    three out before shown mark after o p q r first second third fourth ∙ ap (λ (l : List ℕ). out ++ ((before ++ l) ++ after)) is
