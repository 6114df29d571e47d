-- The lexing of a text, split behind the first token that ends a policy.
use Rattle.std.proofs.Common.{◌≡◌, ◌⊎◌, inl, inr, ℕ, ◌+◌, Bool, true, false, List, [], ◌∷◌, ◌++◌, length, refl, sym, ap}
use Rattle.std.proofs.Common.{◌∙◌, subst, arith, append_assoc, length-append}
use Rattle.std.proofs.lemmas.List.{append-nil}
use Rattle.std.specs.List.{AllByRecursion}
use Rattle.grammar_desugaring.specs.grammar_syntax.declared.token.TokenKind.{TokenKind}
use Rattle.grammar_desugaring.specs.grammar_syntax.declared.token.Token.{Token}
use Rattle.grammar_desugaring.specs.grammar_syntax.Lexing.{IsLongest, EndsLine, IsGap, blank, comment, Lex, finish, gap}
use Rattle.grammar_desugaring.specs.grammar_syntax.Lexing.{token}
use Rattle.policy_grammar.specs.Cuts.{is_end}

-- no token ends a policy
abbrev pub NoEnd : List Token → Type 0
NoEnd ts = AllByRecursion (λ t. is_end t.kind ≡ false) ts

-- ---- less of what follows

longest_cut : (k : TokenKind) (w part more : List ℕ) → IsLongest k w (part ++ more) → IsLongest k w part
longest_cut k w part more l = record {
  is = l.is;
  longest = λ j v rest is e. l.longest j v (rest ++ more) is (sym (append_assoc w part more) ∙ ap (λ (x : List ℕ). x ++ more) e ∙ append_assoc v rest more);
}

line_cut : (part more : List ℕ) → EndsLine (part ++ more) → EndsLine part
line_cut [] more h = tt
line_cut (c ∷ part) more h = h

gap_cut : (w part more : List ℕ) → IsGap w (part ++ more) → IsGap w part
gap_cut w part more (blank c h e) = blank c h e
gap_cut w part more (comment said a b e) = comment said a (line_cut part more b) e

-- ---- the first part

-- the text up to the first token that ends a policy, and what is behind it
pub record FirstPart (at to : ℕ) (tail : List ℕ) (ts : List Token) : Type 0 where
  pub part : List ℕ
  pub rest : List ℕ
  pub before : List Token
  pub last : Token
  pub more : List Token
  pub whole : tail ≡ part ++ rest
  pub tokens : ts ≡ before ++ last ∷ more
  pub lexed : Lex at part (before ++ last ∷ []) (at + length part) []
  pub none_before : NoEnd before
  pub ends : is_end last.kind ≡ true
  pub at_end : last.end ≡ at + length part
  pub behind : Lex (at + length part) rest more to []

further : (at : ℕ) (w part : List ℕ) → at + length w + length part ≡ at + length (w ++ part)
further at w part = omega (arith, length-append w part)

past_gap : {at to : ℕ} {tail : List ℕ} {ts : List Token} (w rest : List ℕ) → tail ≡ w ++ rest → IsGap w rest → FirstPart (at + length w) to rest ts → FirstPart at to tail ts
past_gap {at} {to} w rest e i f =
    let far = further at w f.part in
    record {
      part = w ++ f.part;
      rest = f.rest;
      before = f.before;
      last = f.last;
      more = f.more;
      whole = e ∙ ap (λ (x : List ℕ). w ++ x) f.whole ∙ sym (append_assoc w f.part f.rest);
      tokens = f.tokens;
      lexed = gap w f.part refl (gap_cut w f.part f.rest (subst (IsGap w) f.whole i)) (subst (λ (n : ℕ). Lex (at + length w) f.part (f.before ++ f.last ∷ []) n []) far f.lexed);
      none_before = f.none_before;
      ends = f.ends;
      at_end = f.at_end ∙ far;
      behind = subst (λ (n : ℕ). Lex n f.rest f.more to []) far f.behind;
    }

past_token : {at to : ℕ} {tail : List ℕ} {ts : List Token} (k : TokenKind) (w rest : List ℕ) → tail ≡ w ++ rest → IsLongest k w rest → is_end k ≡ false
    → FirstPart (at + length w) to rest ts → FirstPart at to tail (record { kind = k; start = at; end = at + length w } ∷ ts)
past_token {at} {to} k w rest e i h f =
    let far = further at w f.part in
    let one : Token = record { kind = k; start = at; end = at + length w } in
    record {
      part = w ++ f.part;
      rest = f.rest;
      before = one ∷ f.before;
      last = f.last;
      more = f.more;
      whole = e ∙ ap (λ (x : List ℕ). w ++ x) f.whole ∙ sym (append_assoc w f.part f.rest);
      tokens = ap (λ (x : List Token). one ∷ x) f.tokens;
      lexed = token k w f.part refl (longest_cut k w f.part f.rest (subst (IsLongest k w) f.whole i)) (subst (λ (n : ℕ). Lex (at + length w) f.part (f.before ++ f.last ∷ []) n []) far f.lexed);
      none_before = (h, f.none_before);
      ends = f.ends;
      at_end = f.at_end ∙ far;
      behind = subst (λ (n : ℕ). Lex n f.rest f.more to []) far f.behind;
    }

here : {at to : ℕ} {tail : List ℕ} {ts : List Token} (k : TokenKind) (w rest : List ℕ) → tail ≡ w ++ rest → IsLongest k w rest → is_end k ≡ true
    → Lex (at + length w) rest ts to [] → FirstPart at to tail (record { kind = k; start = at; end = at + length w } ∷ ts)
here {at} {to} {tail} {ts} k w rest e i h g =
    record {
      part = w;
      rest = rest;
      before = [];
      last = record { kind = k; start = at; end = at + length w };
      more = ts;
      whole = e;
      tokens = refl;
      lexed = token k w [] (sym (append-nil w)) (longest_cut k w [] rest i) finish;
      none_before = tt;
      ends = h;
      at_end = refl;
      behind = g;
    }

-- behind one token
split_at : {at to : ℕ} {tail : List ℕ} {ts : List Token} (b : Bool) (k : TokenKind) (w rest : List ℕ) → tail ≡ w ++ rest → IsLongest k w rest → is_end k ≡ b
    → Lex (at + length w) rest ts to [] → NoEnd ts ⊎ FirstPart (at + length w) to rest ts
    → NoEnd (record { kind = k; start = at; end = at + length w } ∷ ts) ⊎ FirstPart at to tail (record { kind = k; start = at; end = at + length w } ∷ ts)
split_at true k w rest e i h g behind = inr (here k w rest e i h g)
split_at false k w rest e i h g (inl n) = inl (h, n)
split_at false k w rest e i h g (inr f) = inr (past_token k w rest e i h f)

-- either no token ends a policy, or there is a first one
pub split : {at to : ℕ} {tail : List ℕ} {ts : List Token} → Lex at tail ts to [] → NoEnd ts ⊎ FirstPart at to tail ts
split finish = inl tt
split {at} {to} {tail} {ts} (gap w rest e i g) = elim (split g) [ inl h ↦ inl h | inr f ↦ inr (past_gap w rest e i f) ]
split {at} {to} {tail} (token {ts} k w rest e i g) = split_at (is_end k) k w rest e i refl g (split g)
