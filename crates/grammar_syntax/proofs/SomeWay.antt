-- Each text has tokens, or a place at which none begins.
use Rattle.std.proofs.Common.{◌≡◌, ◌⊎◌, ℕ, zero, suc, ◌+◌, ◌≤◌, ◌<◌, List, [], ◌∷◌, ◌++◌, inl, inr, ap, arith, length, length-append, codes}
use Rattle.std.proofs.lemmas.Str.{length-encode, len_utf8_bounds}
use Rattle.grammar_syntax.specs.declared.token.TokenKind.{TokenKind}
use Rattle.grammar_syntax.specs.declared.token.Token.{Token}
use Rattle.grammar_syntax.specs.Lexing.{IsToken, IsLongest, NoToken, IsGap, blank, comment, NoGap, Lex, finish, gap, token, EachIsLexedOrBad}
use Rattle.grammar_syntax.proofs.FirstByte.{not_empty}
use Rattle.grammar_syntax.proofs.SomeGap.{some_gap}
use Rattle.grammar_syntax.proofs.SomeToken.{some_token}

-- From this place the text has tokens up to a place at which none begins.
record Stops (at : ℕ) (text : List ℕ) : Type 0 where
  to : ℕ
  tokens : List Token
  here : ℕ
  rest : List ℕ
  before : Lex at text tokens to (here ∷ rest)
  no_gap : NoGap (here ∷ rest)
  no_token : NoToken (here ∷ rest)

-- either that, or it has tokens up to its end
abbrev Goes : ℕ → List ℕ → Type 0
Goes at text = ((to : ℕ) × (ts : List Token) × Lex at text ts to []) ⊎ Stops at text

behind_gap : (at : ℕ) (text w rest : List ℕ) → text ≡ w ++ rest → IsGap w rest → Goes (at + length w) rest → Goes at text
behind_gap at text w rest e i (inl h) = inl (h.0, h.1, gap w rest e i h.2)
behind_gap at text w rest e i (inr s) = inr (record {
  to = s.to;
  tokens = s.tokens;
  here = s.here;
  rest = s.rest;
  before = gap w rest e i s.before;
  no_gap = s.no_gap;
  no_token = s.no_token;
})

behind_token : (at : ℕ) (text : List ℕ) (k : TokenKind) (w rest : List ℕ) → text ≡ w ++ rest → IsLongest k w rest → Goes (at + length w) rest → Goes at text
behind_token at text k w rest e i (inl h) = inl (h.0, record { kind = k; start = at; end = at + length w } ∷ h.1, token k w rest e i h.2)
behind_token at text k w rest e i (inr s) = inr (record {
  to = s.to;
  tokens = record { kind = k; start = at; end = at + length w } ∷ s.tokens;
  here = s.here;
  rest = s.rest;
  before = token k w rest e i s.before;
  no_gap = s.no_gap;
  no_token = s.no_token;
})

gap_long : (w rest : List ℕ) → IsGap w rest → 0 < length w
gap_long w rest (blank c h f) = omega (arith, ap length f, length-encode c, (len_utf8_bounds c).0)
gap_long w rest (comment said a b f) = omega (arith, ap length f, length-append (codes "//") said)

token_long : (k : TokenKind) (w : List ℕ) → IsToken k w → 0 < length w
token_long k [] t = absurd (not_empty k t)
token_long k (x ∷ w) t = omega arith

less : (text w rest : List ℕ) (n : ℕ) → text ≡ w ++ rest → 0 < length w → length text ≤ suc n → length rest ≤ n
less text w rest n e l h = omega (arith, ap length e, length-append w rest)

-- the text from this place on, of so many bytes at most
goes : (n at : ℕ) (text : List ℕ) → length text ≤ n → Goes at text
goes n at [] h = inl (at, [], finish)
goes zero at (c ∷ cs) h = absurd (omega arith)
goes (suc n) at (c ∷ cs) h = elim (some_gap (c ∷ cs)) [
  | inl g ↦
      let w = g.1.w in
      let rest = g.1.rest in
      behind_gap at (c ∷ cs) w rest g.1.cut g.1.is (goes n (at + length w) rest (less (c ∷ cs) w rest n g.1.cut (gap_long w rest g.1.is) h))
  | inr no_gap ↦ elim (some_token (c ∷ cs)) [
    | inl f ↦
        let k = f.0.kind in
        let w = f.1.w in
        let rest = f.1.rest in
        behind_token at (c ∷ cs) k w rest f.1.cut f.1.longest (goes n (at + length w) rest (less (c ∷ cs) w rest n f.1.cut (token_long k w f.1.longest.is) h))
    | inr no_token ↦ inr (record { to = at; tokens = []; here = c; rest = cs; before = finish; no_gap = no_gap; no_token = no_token })
  ]
]

pub each_is_lexed_or_bad : EachIsLexedOrBad
each_is_lexed_or_bad text = elim (goes (length text) 0 text (omega arith)) [
  | inl h ↦ inl (h.1, (h.0, h.2))
  | inr s ↦ inr (
    s.to,
    record { tokens = s.tokens; here = s.here; rest = s.rest; before = s.before; no_gap = s.no_gap; no_token = s.no_token },
  )
]
