-- Tests on sets of kinds, and what they mean.
use Rattle.std.proofs.Common.{◌≡◌, ℕ, zero, suc, Bool, true, false, not, ◌&&◌, ◌||◌, List, [], ◌∷◌, ◌++◌, Option, Some, None, refl, sym, ap, ◌∙◌}
use Rattle.std.specs.List.{list_all}
use Rattle.grammar_syntax.specs.declared.token.Token.{Token}
use Rattle.grammar_syntax.specs.declared.token.TokenKind.{TokenKind}
use Rattle.grammar_syntax.specs.declared.token.TokenKind.TheVariants as k
use Rattle.grammar_syntax.specs.ParseResults.{sees}
use Rattle.grammar_syntax.specs.Kinds.{Kinds, number_of}

abbrev pub all_kinds : List TokenKind
all_kinds = k.Ident ∷ k.Number ∷ k.Text ∷ k.StarText ∷ k.True ∷ k.False ∷ k.If ∷ k.Then ∷ k.Else ∷ k.In ∷ k.Is ∷ k.Like ∷ k.Has ∷ k.Cedar ∷ k.Permit ∷ k.Forbid ∷ k.When ∷ k.Unless ∷ k.Principal ∷ k.Action ∷ k.Resource ∷ k.Context ∷ k.PrincipalSlot ∷ k.ResourceSlot ∷ k.At ∷ k.LParen ∷ k.RParen ∷ k.LBrace ∷ k.RBrace ∷ k.LBracket ∷ k.RBracket ∷ k.Comma ∷ k.Semicolon ∷ k.Colon ∷ k.Colons ∷ k.Dot ∷ k.Equal ∷ k.NotEqual ∷ k.Less ∷ k.LessEqual ∷ k.Greater ∷ k.GreaterEqual ∷ k.And ∷ k.Or ∷ k.Plus ∷ k.Minus ∷ k.Star ∷ k.Not ∷ []

abbrev pub apart : Kinds → Kinds → Bool
apart ks js = list_all (λ k. not (ks k && js k)) all_kinds

abbrev pub within : Kinds → Kinds → Bool
within ks js = list_all (λ k. not (ks k) || js k) all_kinds

abbrev nth : List TokenKind → ℕ → Option TokenKind
nth [] n = None
nth (k ∷ ks) zero = Some k
nth (k ∷ ks) (suc n) = nth ks n

there : (k : TokenKind) → nth all_kinds (number_of k) ≡ Some k
there k.Ident = refl
there _ = refl

both_true : (a b : Bool) → (a && b) ≡ true → (a ≡ true) × (b ≡ true)
both_true true b h = (refl, h)
both_true false b h = absurd (cc)

at : (p : TokenKind → Bool) (ks : List TokenKind) (n : ℕ) (k : TokenKind) → list_all p ks ≡ true → nth ks n ≡ Some k → p k ≡ true
at p [] n k h e = absurd (cc)
at p (j ∷ ks) zero k h e = let here : j ≡ k = cc in ap p (sym here) ∙ (both_true (p j) (list_all p ks) h).0
at p (j ∷ ks) (suc n) k h e = at p ks n k (both_true (p j) (list_all p ks) h).1 e

apart_of : (a b : Bool) → not (a && b) ≡ true → a ≡ true → b ≡ false
apart_of true true h e = sym h
apart_of true false h e = refl
apart_of false b h e = absurd (cc)

within_of : (a b : Bool) → (not a || b) ≡ true → a ≡ true → b ≡ true
within_of true b h e = h
within_of false b h e = absurd (cc)

pub is_apart : (ks js : Kinds) → apart ks js ≡ true → (k : TokenKind) → ks k ≡ true → js k ≡ false
is_apart ks js h k e = apart_of (ks k) (js k) (at (λ k. not (ks k && js k)) all_kinds (number_of k) k h (there k)) e

pub is_within : (ks js : Kinds) → within ks js ≡ true → (k : TokenKind) → ks k ≡ true → js k ≡ true
is_within ks js h k e = within_of (ks k) (js k) (at (λ k. not (ks k) || js k) all_kinds (number_of k) k h (there k)) e

-- what begins with a token of the set, whatever follows
pub sees-append : (ks : Kinds) (ts rest : List Token) → sees ks ts ≡ true → sees ks (ts ++ rest) ≡ true
sees-append ks [] rest h = absurd (cc)
sees-append ks (t ∷ ts) rest h = h

pub sees_apart : (ks js : Kinds) (ts rest : List Token) → apart ks js ≡ true → sees ks ts ≡ true → sees js (ts ++ rest) ≡ false
sees_apart ks js [] rest h e = absurd (cc)
sees_apart ks js (t ∷ ts) rest h e = is_apart ks js h t.kind e

false_within : (a b : Bool) → (a ≡ true → b ≡ true) → b ≡ false → a ≡ false
false_within true b f h = absurd (let e = f refl in cc)
false_within false b f h = refl

pub unseen_within : (ks js : Kinds) (ts : List Token) → within ks js ≡ true → sees js ts ≡ false → sees ks ts ≡ false
unseen_within ks js [] h e = refl
unseen_within ks js (t ∷ ts) h e = false_within (ks t.kind) (js t.kind) (is_within ks js h t.kind) e

pub sees_same : (ks : Kinds) (front : List Token) (b : Token) (more others : List Token) → sees ks (front ++ b ∷ more) ≡ sees ks (front ++ b ∷ others)
sees_same ks [] b more others = refl
sees_same ks (t ∷ ts) b more others = refl

one_at : (j k : TokenKind) → Some j ≡ Some k → j ≡ k
one_at j k h = cc

pub kind_of_number : (j k : TokenKind) → number_of j ≡ number_of k → j ≡ k
kind_of_number j k h = one_at j k (sym (there j) ∙ ap (nth all_kinds) h ∙ there k)

pub wide_sees : (ks js : Kinds) (ts : List Token) → within ks js ≡ true → sees ks ts ≡ true → sees js ts ≡ true
wide_sees ks js [] h e = absurd (cc)
wide_sees ks js (t ∷ ts) h e = is_within ks js h t.kind e
