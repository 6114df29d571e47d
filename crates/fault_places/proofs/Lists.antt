-- Lists of tokens and of pieces, cut and counted.
use Rattle.std.proofs.Common.{◌≡◌, ℕ, zero, suc, ◌+◌, ◌⊎◌, ◌++◌, List, [], ◌∷◌, length, drop, map, Option, Some, None, refl, sym, ap, ◌∙◌, subst, inl, inr, arith, append_assoc, length-append}
use Rattle.std.specs.List.{slice_get}
use Rattle.std.proofs.lemmas.List.{append-nil, drop-drop}
use Rattle.std.proofs.Math.Seq.{drop-append_seam}
use Rattle.grammar_syntax.specs.declared.token.Token.{Token}
use Rattle.grammar_syntax.specs.Lang.{Lang, many}
use Rattle.fault_places.specs.TokenCounts.{each_count}

-- `Ends us ts`: the tokens ts end with us.
abbrev pub Ends : List Token → List Token → Type 0
Ends us ts = (n : ℕ) × (us ≡ drop n ts)

pub ends_here : (us ts : List Token) → us ≡ ts → Ends us ts
ends_here us ts e = (0, e)

pub ends_later : (n : ℕ) (us vs ts : List Token) → vs ≡ drop n us → Ends us ts → Ends vs ts
ends_later n us vs ts e h = (h.0 + n, e ∙ ap (drop n) h.1 ∙ drop-drop n h.0 ts)

pub get_middle : {A : Type 0} (init : List A) (x : A) (later : List A)
    → slice_get (init ++ x ∷ later) (length init) ≡ Some x
get_middle [] x later = refl
get_middle (y ∷ init) x later = get_middle init x later

pub snoc : {A : Type 0} (xs : List A) → (xs ≡ []) ⊎ ((init : List A) × (last : A) × (xs ≡ init ++ last ∷ []))
snoc [] = inl refl
snoc (x ∷ xs) =
    elim (snoc xs) [
      | inl e ↦ inr ([], x, ap (λ ys. x ∷ ys) e)
      | inr s ↦ inr (x ∷ s.0, s.1, ap (λ ys. x ∷ ys) s.2)
    ]

-- pieces up to the last one
pub record Cut {A : Type 0} (M : Lang A) (ts : List Token) (init : List A) (last : A) : Type 0 where
  pub front : List Token
  pub back : List Token
  pub whole : ts ≡ front ++ back
  pub before : many M front init
  pub here : M back last

pub many_snoc : {A : Type 0} (M : Lang A) (ts : List Token) (init : List A) (last : A)
    → many M ts (init ++ last ∷ []) → Cut M ts init last
many_snoc M ts [] last d = record {
  front = [];
  back = d.0;
  whole = d.2 ∙ ap (λ us. d.0 ++ us) d.4 ∙ append-nil d.0;
  before = refl;
  here = d.3;
}
many_snoc M ts (x ∷ init) last d =
    let c = many_snoc M d.1 init last d.4 in record {
      front = d.0 ++ c.front;
      back = c.back;
      whole = d.2 ∙ ap (λ us. d.0 ++ us) c.whole ∙ sym (append_assoc d.0 c.front c.back);
      before = (d.0, c.front, refl, d.3, c.before);
      here = c.here;
    }

-- one piece more behind
pub many_more : {A : Type 0} (M : Lang A) (us vs : List Token) (init : List A) (last : A) → many M us init → M vs last
    → many M (us ++ vs) (init ++ last ∷ [])
many_more M us vs [] last d m =
    (vs, [], ap (λ ts. ts ++ vs) d ∙ sym (append-nil vs), m, refl)
many_more M us vs (x ∷ init) last d m =
    (d.0, d.1 ++ vs, ap (λ ts. ts ++ vs) d.2 ∙ append_assoc d.0 d.1 vs, d.3, many_more M d.1 vs init last d.4 m)

-- pieces, each of which is one token more than what is counted of it
pub many_count : {A : Type 0} (M : Lang A) (count : A → ℕ) → ((ts : List Token) (x : A) → M ts x → length ts ≡ count x + 1)
    → (ts : List Token) (xs : List A) → many M ts xs → length ts ≡ each_count (map count xs)
many_count M count each ts [] d = ap length d
many_count M count each ts (x ∷ xs) d =
    let one = each d.0 x d.3 in
    let rest = many_count M count each d.1 xs d.4 in
    let all = ap length d.2 ∙ length-append d.0 d.1 in omega arith

-- tokens behind some others, by the count of these
pub past : (ts us vs : List Token) (n : ℕ) → ts ≡ us ++ vs → length us ≡ n → drop n ts ≡ vs
past ts us vs n e c = ap (λ k. drop k ts) (sym c) ∙ ap (drop (length us)) e ∙ drop-append_seam us vs

pub swapped : (m n : ℕ) → m + n ≡ n + m
swapped m n = omega arith

-- an operand of none, one, two or three
pub some_same : {A : Type 0} {a b : A} → Some a ≡ Some b → a ≡ b
some_same e = cc

pub none_some : {A : Type 0} {b : A} → ◌≡◌ {A = Option A} None (Some b) → ⊥
none_some e = cc

pub in_none : {A : Type 0} (Q : ℕ → A → Type 0) (i : ℕ) (y : A) → slice_get {X = A} [] i ≡ Some y → Q i y
in_none Q i y e = absurd (none_some e)

pub in_one : {A : Type 0} (Q : ℕ → A → Type 0) (x : A) → Q 0 x → (i : ℕ) (y : A) → slice_get (x ∷ []) i ≡ Some y
    → Q i y
in_one Q x q zero y e = subst (Q 0) (some_same e) q
in_one Q x q (suc i) y e = absurd (none_some e)

pub in_two : {A : Type 0} (Q : ℕ → A → Type 0) (x z : A) → Q 0 x → Q 1 z → (i : ℕ) (y : A)
    → slice_get (x ∷ z ∷ []) i ≡ Some y → Q i y
in_two Q x z q r zero y e = subst (Q 0) (some_same e) q
in_two Q x z q r (suc zero) y e = subst (Q 1) (some_same e) r
in_two Q x z q r (suc (suc i)) y e = absurd (none_some e)

pub in_three : {A : Type 0} (Q : ℕ → A → Type 0) (x z v : A) → Q 0 x → Q 1 z → Q 2 v → (i : ℕ) (y : A)
    → slice_get (x ∷ z ∷ v ∷ []) i ≡ Some y → Q i y
in_three Q x z v q r s zero y e = subst (Q 0) (some_same e) q
in_three Q x z v q r s (suc zero) y e = subst (Q 1) (some_same e) r
in_three Q x z v q r s (suc (suc zero)) y e = subst (Q 2) (some_same e) s
in_three Q x z v q r s (suc (suc (suc i))) y e = absurd (none_some e)
