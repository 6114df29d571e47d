-- Defines the combinators that productions are made of. A production defines which values, such as trees, a list of
-- tokens derives.
use Rattle.std.specs.Prelude.{◌≡◌, ◌⊎◌, ℕ, suc, Bool, true, false, List, [], ◌∷◌, ◌++◌, Option, Some, None}
use Rattle.grammar_syntax.specs.declared.token.TokenKind.{TokenKind}
use Rattle.grammar_syntax.specs.declared.token.Token.{Token}
use Rattle.grammar_syntax.specs.Kinds.{Kinds, only}

-- `Lang A` is the type of languages: relations between a list of tokens and a value of `A` that it derives.
abbrev pub Lang : Type 0 → Type 1
Lang A = List Token → A → Type 0

-- `of ks`: one token of a kind in `ks`
abbrev pub of : Kinds → Lang Token
of ks ts t = (ts ≡ t ∷ []) × (ks t.kind ≡ true)

-- `one k`: one token of the kind `k`
abbrev pub one : TokenKind → Lang Token
one k = of (only k)

-- `empty a`: no token, with the value `a`
abbrev pub empty : {A : Type 0} → A → Lang A
empty a ts x = (ts ≡ []) × (x ≡ a)

-- `Joined L M ts b`: `ts` are tokens that derive some `value` in `L`, then tokens that derive `b` in `M value`
pub record Joined {A B : Type 0} (L : Lang A) (M : A → Lang B) (ts : List Token) (b : B) : Type 0 where
  pub front : List Token
  pub back : List Token
  pub value : A
  pub whole : ts ≡ front ++ back
  pub first : L front value
  pub second : M value back b

-- `do x ← L; M` is `L >>= (λ x. M)`, and `do L; M` is `L >> M`
infixl 10 ◌>>=◌
abbrev pub ◌>>=◌ : {A B : Type 0} → Lang A → (A → Lang B) → Lang B
L >>= M = Joined L M

infixl 10 ◌>>◌
abbrev pub ◌>>◌ : {A B : Type 0} → Lang A → Lang B → Lang B
L >> M = Joined L (λ _. M)

-- `L giving f`: tokens of `L`, with their value mapped by `f`
infixl 10 ◌giving◌
abbrev pub ◌giving◌ : {A B : Type 0} → Lang A → (A → B) → Lang B
L giving f = L >>= (λ x. empty (f x))

-- `L or M`: tokens of `L` or of `M`
infixr 9 ◌or◌
abbrev pub ◌or◌ : {A : Type 0} → Lang A → Lang A → Lang A
(L or M) ts x = L ts x ⊎ M ts x

-- `optional L`: tokens of `L` or none, written `[ L ]` in a grammar
abbrev pub optional : {A : Type 0} → Lang A → Lang (Option A)
optional L ts None = ts ≡ []
optional L ts (Some x) = L ts x

-- `many L`: tokens of `L` any number of times, written `{ L }` in a grammar
abbrev pub many : {A : Type 0} → Lang A → Lang (List A)
many L ts [] = ts ≡ []
many L ts (x ∷ xs) = (front : List Token) × (back : List Token) × (ts ≡ front ++ back) × L front x × many L back xs

-- `never`: the empty language, which no tokens derive
abbrev pub never : {A : Type 0} → Lang A
never ts x = ⊥

-- `at_any L`: tokens of `L n` for some `n` of at least 1, a limit on the levels of nesting; so nesting has no limit
abbrev pub at_any : {A : Type 0} → (ℕ → Lang A) → Lang A
at_any L ts x = (levels : ℕ) × L (suc levels) ts x

-- `gate open L`: `L` if `open` is true (another level of nesting may be opened), else `never`
abbrev pub gate : {A : Type 0} → Bool → Lang A → Lang A
gate true L = L
gate false L = never
