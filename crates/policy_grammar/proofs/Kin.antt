-- What a production derives of some tokens it derives, as a tree that says the same, of all that are of the same kinds
-- and spelled as these: one rule a form.
use Rattle.std.proofs.Common.{◌≡◌, inl, inr, ℕ, Bool, true, false, List, [], ◌∷◌, ◌++◌, Option, Some, None, refl, sym}
use Rattle.std.proofs.Common.{ap, ◌∙◌, subst}
use Rattle.std.specs.List.{AllZip}
use Rattle.grammar_desugaring.specs.grammar_syntax.declared.token.TokenKind.{TokenKind}
use Rattle.grammar_desugaring.specs.grammar_syntax.declared.token.Token.{Token}
use Rattle.grammar_desugaring.specs.grammar_syntax.Lexing.{spelling_of}
use Rattle.grammar_desugaring.specs.grammar_syntax.Kinds.{Kinds, only}
use Rattle.grammar_desugaring.specs.grammar_syntax.Lang as lang
use Rattle.grammar_desugaring.specs.grammar_syntax.Lang.{Lang}
use Rattle.grammar_parsing.specs.Expressions as e

-- tokens of two texts, of one kind and with one spelling
pub record Same (text part : List ℕ) (t u : Token) : Type 0 where
  pub kind : t.kind ≡ u.kind
  pub spelled : spelling_of text t ≡ spelling_of part u

module _ (text part : List ℕ) where
  abbrev pub AreSame : List Token → List Token → Type 0
  AreSame ts us = AllZip (Same text part) ts us

  -- what the first derives of some tokens, the second derives of tokens that are the same, so related
  abbrev pub Kin : {A B : Type 0} → Lang A → Lang B → (A → B → Type 0) → Type 0
  Kin {A} {B} L M R = (ts us : List Token) (x : A) → AreSame ts us → L ts x → (y : B) × M us y × R x y

  record Halves (front back us : List Token) : Type 0 where
    first : List Token
    second : List Token
    whole : us ≡ first ++ second
    first_same : AreSame front first
    second_same : AreSame back second

  halves : (front back us : List Token) → AreSame (front ++ back) us → Halves front back us
  halves [] back us h = record { first = []; second = us; whole = refl; first_same = tt; second_same = h }
  halves (t ∷ front) back [] h = absurd h
  halves (t ∷ front) back (u ∷ us) h =
      let more = halves front back us h.1 in
      record {
        first = u ∷ more.first;
        second = more.second;
        whole = ap (λ (x : List Token). u ∷ x) more.whole;
        first_same = (h.0, more.first_same);
        second_same = more.second_same;
      }

  none_same : (us : List Token) → AreSame [] us → us ≡ []
  none_same [] h = refl
  none_same (u ∷ us) h = absurd h

  record One (t : Token) (us : List Token) : Type 0 where
    token : Token
    whole : us ≡ token ∷ []
    same : Same text part t token

  one_same : (t : Token) (us : List Token) → AreSame (t ∷ []) us → One t us
  one_same t [] h = absurd h
  one_same t (u ∷ us) h = record { token = u; whole = ap (λ (x : List Token). u ∷ x) (none_same us h.1); same = h.0 }

  pub of_kin : (ks : Kinds) → Kin (lang.of ks) (lang.of ks) (Same text part)
  of_kin ks ts us t same d =
      let one = one_same t us (subst (λ (x : List Token). AreSame x us) d.0 same) in
      (one.token, (one.whole, ap ks (sym one.same.kind) ∙ d.1), one.same)

  pub empty_kin : {A B : Type 0} (R : A → B → Type 0) (a : A) (b : B) → R a b → Kin (lang.empty a) (lang.empty b) R
  empty_kin R a b r ts us x same d =
      (b, (none_same us (subst (λ (y : List Token). AreSame y us) d.0 same), refl), subst (λ y. R y b) (sym d.1) r)

  pub both_kin : {A B C D : Type 0} {L : Lang A} {M : A → Lang B} {P : Lang C} {Q : C → Lang D} {R : A → C → Type 0} {S : B → D → Type 0} → Kin L P R
      → ((a : A) (c : C) → R a c → Kin (M a) (Q c) S) → Kin (lang.◌>>=◌ L M) (lang.◌>>=◌ P Q) S
  both_kin l m ts us x same j =
      let h = halves j.front j.back us (subst (λ (y : List Token). AreSame y us) j.whole same) in
      let first = l j.front h.first j.value h.first_same j.first in
      let second = m j.value first.0 first.2 j.back h.second x h.second_same j.second in
      (second.0, record { front = h.first; back = h.second; value = first.0; whole = h.whole; first = first.1; second = second.1 }, second.2)

  pub giving_kin : {A B C D : Type 0} {L : Lang A} {P : Lang C} {R : A → C → Type 0} (S : B → D → Type 0) (f : A → B) (g : C → D) → Kin L P R
      → ((a : A) (c : C) → R a c → S (f a) (g c)) → Kin (lang.◌giving◌ L f) (lang.◌giving◌ P g) S
  giving_kin S f g l each = both_kin l (λ a c r. empty_kin S (f a) (g c) (each a c r))

  pub or_kin : {A C : Type 0} {L M : Lang A} {P Q : Lang C} {R : A → C → Type 0} → Kin L P R → Kin M Q R → Kin (lang.◌or◌ L M) (lang.◌or◌ P Q) R
  or_kin l m ts us x same (inl d) = let y = l ts us x same d in (y.0, inl y.1, y.2)
  or_kin l m ts us x same (inr d) = let y = m ts us x same d in (y.0, inr y.1, y.2)

  -- two that are there and related, or none
  abbrev pub Both : {A C : Type 0} → (A → C → Type 0) → Option A → Option C → Type 0
  Both R None None = Unit {0}
  Both R (Some a) (Some c) = R a c
  Both R _ _ = ⊥

  pub maybe_kin : {A C : Type 0} {L : Lang A} {P : Lang C} {R : A → C → Type 0} → Kin L P R → Kin (lang.optional L) (lang.optional P) (Both R)
  maybe_kin l ts us None same d = (None, none_same us (subst (λ (y : List Token). AreSame y us) d same), tt)
  maybe_kin l ts us (Some x) same d = let y = l ts us x same d in (Some y.0, y.1, y.2)

  pub many_kin : {A C : Type 0} {L : Lang A} {P : Lang C} {R : A → C → Type 0} → Kin L P R → Kin (lang.many L) (lang.many P) (AllZip R)
  many_kin l ts us [] same d = ([], none_same us (subst (λ (y : List Token). AreSame y us) d same), tt)
  many_kin {L = L} {P = P} {R = R} l ts us (x ∷ xs) same d =
      let h = halves d.0 d.1 us (subst (λ (y : List Token). AreSame y us) d.2 same) in
      let first = l d.0 h.first x h.first_same d.3 in
      let second = many_kin {L = L} {P = P} {R = R} l d.1 h.second xs h.second_same d.4 in
      (first.0 ∷ second.0, (h.first, h.second, h.whole, first.1, second.1), (first.2, second.2))

  pub gate_kin : {A C : Type 0} {L : Lang A} {P : Lang C} {R : A → C → Type 0} (may : Bool) → Kin L P R → Kin (lang.gate may L) (lang.gate may P) R
  gate_kin true l ts us x same d = l ts us x same d
  gate_kin false l ts us x same d = absurd d

  pub symbol_kin : {A : Type 0} (meaning : TokenKind → Option A) → Kin (e.symbol meaning) (e.symbol meaning) (λ a b. a ≡ b)
  symbol_kin meaning ts us a same d =
      let one = one_same d.0 us (subst (λ (x : List Token). AreSame x us) d.1 same) in
      (a, (one.token, one.whole, ap meaning (sym one.same.kind) ∙ d.2), refl)

  -- whatever stands behind a token of this kind
  pub behind_kin : {B D : Type 0} {M : Lang B} {Q : Lang D} {S : B → D → Type 0} (kind : TokenKind) → Kin M Q S → Kin (lang.◌>>◌ (lang.one kind) M) (lang.◌>>◌ (lang.one kind) Q) S
  behind_kin kind m = both_kin (of_kin (only kind)) (λ a c r. m)
