-- Defines the combinators that parsing functions are made of. These functions parse from the left with one token of
-- lookahead.
use Rattle.std.specs.Prelude.{ℕ, zero, suc, Bool, true, false, List, [], ◌∷◌, length, Option, Some, None}
use Rattle.grammar_syntax.specs.declared.token.TokenKind.{TokenKind}
use Rattle.grammar_syntax.specs.declared.token.Token.{Token}
use Rattle.grammar_syntax.specs.Kinds.{Kinds, only}
use Rattle.grammar_syntax.specs.ParseResults.{sees}

-- A `StopReason` is the reason why parsing stops: the next token cannot occur there (or is missing), or it would open
-- one level of nesting too many.
pub data StopReason : Type 0 where
  Unexpected TooDeep : StopReason

-- A `ParseResult A` is a value or the reason why parsing stops, each with the remaining tokens.
pub data ParseResult (A : Type 0) : Type 0 where
  Read : A → List Token → ParseResult A
  Stop : StopReason → List Token → ParseResult A

-- A `Parser A` is a parsing function: it maps a list of tokens to a result.
abbrev pub Parser : Type 0 → Type 0
Parser A = List Token → ParseResult A

-- `and_then r f` applies `f` to the value and the remaining tokens of `r`, or stops as `r` does.
abbrev pub and_then : {A B : Type 0} → ParseResult A → (A → Parser B) → ParseResult B
and_then (Read a rest) f = f a rest
and_then (Stop w rest) f = Stop w rest

-- `p >>= f` parses by `p`, and then by `f a`, where `a` is the value of `p`; `p >> q` parses by `p`, and then by `q`.
-- The notation `do` uses both.
infixl 10 ◌>>=◌
abbrev pub ◌>>=◌ : {A B : Type 0} → Parser A → (A → Parser B) → Parser B
p >>= f = λ ts. and_then (p ts) f

infixl 10 ◌>>◌
abbrev pub ◌>>◌ : {A B : Type 0} → Parser A → Parser B → Parser B
p >> q = p >>= (λ _. q)

-- `pure a` consumes no token, and has the value `a`.
abbrev pub pure : {A : Type 0} → A → Parser A
pure a = λ ts. Read a ts

-- `refuse` stops: the next token cannot occur there.
abbrev pub refuse : {A : Type 0} → Parser A
refuse = λ ts. Stop Unexpected ts

-- `too_deep` stops: the next token would open one level of nesting too many.
abbrev pub too_deep : {A : Type 0} → Parser A
too_deep = λ ts. Stop TooDeep ts

-- `chosen b x y` is `x` if `b` is true, else `y`.
abbrev pub chosen : {A : Type 0} → Bool → A → A → A
chosen true x y = x
chosen false x y = y

-- `take_if b t ts` consumes the token `t`, so that the tokens `ts` remain, if `b` is true; else it stops before `t`.
abbrev pub take_if : Bool → Token → List Token → ParseResult Token
take_if true t ts = Read t ts
take_if false t ts = Stop Unexpected (t ∷ ts)

-- `take ks` parses a token of a kind in `ks`.
unfoldable pub take : Kinds → Parser Token
take ks [] = Stop Unexpected []
take ks (t ∷ ts) = take_if (ks t.kind) t ts

-- `token k` parses a token of kind `k`.
abbrev pub token : TokenKind → Parser Token
token k = take (only k)

-- `either ks p q` parses by `p` if a token of `ks` comes next, else by `q`.
abbrev pub either : {A : Type 0} → Kinds → Parser A → Parser A → Parser A
either ks p q = λ ts. chosen (sees ks ts) p q ts

-- `optional ks p` parses by `p` if a token of `ks` comes next; else it consumes no token, and has the value `None`.
abbrev pub optional : {A : Type 0} → Kinds → Parser A → Parser (Option A)
optional ks p = either ks (p >>= (λ a. pure (Some a))) (pure None)

-- `loop_from next ks p n s` parses by `p s` again and again, as long as a token of the set `ks s` comes next, at most
-- `n` times. After each time, `next` maps the state `s` and the parsed value to the next state.
unfoldable pub loop_from : {S A : Type 0} → (S → A → S) → (S → Kinds) → (S → Parser A) → ℕ → S → Parser (List A)
loop_from next ks p zero s = pure []
loop_from next ks p (suc n) s =
    either (ks s) (p s >>= (λ a. loop_from next ks p n (next s a) >>= (λ more. pure (a ∷ more)))) (pure [])

-- `loop next ks p s` is `loop_from next ks p n s`, where `n` is the number of the tokens to parse.
abbrev pub loop : {S A : Type 0} → (S → A → S) → (S → Kinds) → (S → Parser A) → S → Parser (List A)
loop next ks p s = λ ts. loop_from next ks p (length ts) s ts

-- `many ks p` repeats `p` as long as a token of `ks` comes next.
abbrev pub many : {A : Type 0} → Kinds → Parser A → Parser (List A)
many ks p = loop (λ s a. s) (λ s. ks) (λ s. p) (tt {0})

-- `gate open p` is `p` if `open` is true (another level of nesting may be opened), else `too_deep`.
abbrev pub gate : {A : Type 0} → Bool → Parser A → Parser A
gate true p = p
gate false p = too_deep
