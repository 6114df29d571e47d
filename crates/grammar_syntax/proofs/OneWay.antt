-- Two lexings of one text are one.
use Rattle.std.proofs.Common.{◌≡◌, ℕ, ◌+◌, List, [], ◌∷◌, ◌++◌, inl, inr, refl, sym, ◌∙◌, ap, subst, arith, length}
use Rattle.std.proofs.lemmas.Str.{length-encode, len_utf8_bounds}
use Rattle.std.proofs.lemmas.List.{append_cancel_left, append_cancel_right}
use Rattle.grammar_syntax.specs.declared.token.TokenKind.{TokenKind}
use Rattle.grammar_syntax.specs.declared.token.Token.{Token}
use Rattle.grammar_syntax.specs.declared.piece.Piece.{Piece}
use Rattle.grammar_syntax.specs.declared.piece.Piece.TheVariants.{Byte}
use Rattle.grammar_syntax.specs.Lexing.{IsBody, done, itself, escape, kind_of_pieces, IsToken, IsGap, blank, comment, NoGap, NoToken, Lex, finish, gap, token, IsBadAt, OneLexing, BadIsNotLexed, OneBadPlace}
use Rattle.grammar_syntax.proofs.Escapes.{same_escape}
use Rattle.grammar_syntax.proofs.Bodies.{slash}
use Rattle.grammar_syntax.proofs.FirstByte.{Class, letters, digits, quotes, question, others, class, OfClass, of_class, not_empty}
use Rattle.grammar_syntax.proofs.Unique.{gap_token, same_gap}
use Rattle.grammar_syntax.proofs.Parts.{heads, nothing, tails}

-- the pieces of a quoted text are determined
pub same_body : {ps qs : List Piece} {v w : List ℕ} → IsBody ps v → IsBody qs w → v ≡ w → ps ≡ qs
same_body done done e = refl
same_body done (itself {b = b} {w = w} n m h) e = absurd (nothing b w e)
same_body done (escape {p = p} x rest i s h) e = let t = slash p x rest i in absurd (nothing 92 t.0 (e ∙ (s ∙ t.1)))
same_body (itself {b = b} {w = v} n m g) done e = absurd (nothing b v (sym e))
same_body (itself {b = b} {ps = ps} {w = v} n m g) (itself {b = c} {ps = qs} {w = w} k l h) e =
    ap (λ (x : ℕ). Byte x ∷ ps) (heads b c v w e) ∙ ap (λ (x : List Piece). Byte c ∷ x) (same_body g h (tails b c v w e))
same_body (itself {b = b} {w = v} n m g) (escape {p = p} x rest i s h) e =
    let t = slash p x rest i in absurd (m (heads b 92 v t.0 (e ∙ (s ∙ t.1))))
same_body (escape {p = p} x rest i s g) done e = let t = slash p x rest i in absurd (nothing 92 t.0 (sym e ∙ (s ∙ t.1)))
same_body (escape {p = p} x rest i s g) (itself {b = c} {w = w} k l h) e =
    let t = slash p x rest i in absurd (l (heads c 92 w t.0 (sym e ∙ (s ∙ t.1))))
same_body (escape {p = p} {ps = ps} x rest i s g) (escape {p = q} {ps = qs} y more j t h) e =
    let whole : x ++ rest ≡ y ++ more = sym s ∙ (e ∙ t) in
    let same = same_escape p q x y rest more i j whole in
    let rests : rest ≡ more = append_cancel_left x rest more (whole ∙ ap (λ (z : List ℕ). z ++ more) (sym same.bytes)) in
    ap (λ (z : Piece). z ∷ ps) same.piece ∙ ap (λ (z : List Piece). q ∷ z) (same_body g h rests)

same_mark : (k j : TokenKind) (w : List ℕ) → OfClass others k w → OfClass others j w → k ≡ j
same_mark k j w (inl a) (inl b) = let x = a.0 in let y = b.0 in cc
same_mark k j w (inl a) (inr b) = absurd (omega (arith, a.1, b.1))
same_mark k j w (inr a) (inl b) = absurd (omega (arith, a.1, b.1))
same_mark k j w (inr a) (inr b) = let x = a.0 in let y = b.0 in cc

same_quoted : (k j : TokenKind) (w : List ℕ) → OfClass quotes k w → OfClass quotes j w → k ≡ j
same_quoted k j w a b =
    let bodies : a.1 ≡ b.1 = append_cancel_right a.1 b.1 (34 ∷ []) (tails 34 34 (a.1 ++ 34 ∷ []) (b.1 ++ 34 ∷ []) (sym a.3 ∙ b.3)) in
    a.4 ∙ (ap kind_of_pieces (same_body a.2 b.2 bodies) ∙ sym b.4)

of_one_class : (x : Class) (k j : TokenKind) (w : List ℕ) → OfClass x k w → OfClass x j w → k ≡ j
of_one_class letters k j w a b = a.1 ∙ sym b.1
of_one_class digits k j w a b = a.1 ∙ sym b.1
of_one_class quotes k j w a b = same_quoted k j w a b
of_one_class question k j w a b = cc
of_one_class others k j w a b = same_mark k j w a b

-- the kind of a token is determined
pub same_kind : (k j : TokenKind) (w : List ℕ) → IsToken k w → IsToken j w → k ≡ j
same_kind k j [] a b = absurd (not_empty k a)
same_kind k j (c ∷ v) a b = of_one_class (class c) k j (c ∷ v) (of_class k c v a) (of_class j c v b)

record Cut (v w r s : List ℕ) : Type 0 where
  front : v ≡ w
  back : r ≡ s

cut : (v w r s : List ℕ) → v ++ r ≡ w ++ s → length v ≡ length w → Cut v w r s
cut [] [] r s e l = record { front = refl; back = e }
cut [] (y ∷ w) r s e l = absurd (omega arith)
cut (x ∷ v) [] r s e l = absurd (omega arith)
cut (x ∷ v) (y ∷ w) r s e l =
    let c = cut v w r s (tails x y (v ++ r) (w ++ s) e) (omega arith) in
    record { front = ap (λ (z : ℕ). z ∷ v) (heads x y (v ++ r) (w ++ s) e) ∙ ap (λ (z : List ℕ). y ∷ z) c.front; back = c.back }

-- neither a gap nor a token begins here
pub record IsStuck (text : List ℕ) : Type 0 where
  pub no_gap : NoGap text
  pub no_token : NoToken text

record Same (to up : ℕ) (left right : List ℕ) (ts us : List Token) : Type 0 where
  place : to ≡ up
  rest : left ≡ right
  tokens : ts ≡ us

move : (at n m : ℕ) {to : ℕ} {x y left : List ℕ} {us : List Token} → n ≡ m → x ≡ y → Lex (at + m) y us to left → Lex (at + n) x us to left
move at n m {to} {x} {y} {left} {us} e f h = subst (λ (z : List ℕ). Lex (at + n) z us to left) (sym f) (subst (λ (z : ℕ). Lex (at + z) y us to left) (sym e) h)

same_lex : {at to up : ℕ} {text left right : List ℕ} {ts us : List Token} → Lex at text ts to left → Lex at text us up right → IsStuck left → IsStuck right → Same to up left right ts us
same_lex finish finish s t = record { place = refl; rest = refl; tokens = refl }
same_lex finish (gap w rest e i g) s t = absurd (s.no_gap w rest i e)
same_lex finish (token k w rest e l g) s t = absurd (s.no_token k w rest l.is e)
same_lex (gap w rest e i g) finish s t = absurd (t.no_gap w rest i e)
same_lex (gap w rest e i g) (gap v more f j h) s t =
    let whole = sym e ∙ f in
    let c = cut w v rest more whole (same_gap w rest v more i j whole) in
    same_lex g (move _ _ _ (ap length c.front) c.back h) s t
same_lex (gap w rest e i g) (token k v more f l h) s t = absurd (gap_token w rest v more k i l.is (sym e ∙ f))
same_lex (token k w rest e l g) finish s t = absurd (t.no_token k w rest l.is e)
same_lex (token k w rest e l g) (gap v more f j h) s t = absurd (gap_token v more w rest k j l.is (sym f ∙ e))
same_lex {at} (token {ts = ts} k w rest e l g) (token {ts = us} j v more f m h) s t =
    let whole = sym e ∙ f in
    let less = l.longest j v more m.is whole in
    let more_than = m.longest k w rest l.is (sym whole) in
    let c = cut w v rest more whole (omega arith) in
    let r = same_lex g (move _ _ _ (ap length c.front) c.back h) s t in
    let kinds : k ≡ j = same_kind k j w l.is (subst (λ (z : List ℕ). IsToken j z) (sym c.front) m.is) in
    record {
      place = r.place;
      rest = r.rest;
      tokens = ap (λ (z : TokenKind). record { kind = z; start = at; end = at + length w } ∷ ts) kinds
          ∙ (ap (λ (z : List ℕ). record { kind = j; start = at; end = at + length z } ∷ ts) c.front
          ∙ ap (λ (z : List Token). record { kind = j; start = at; end = at + length v } ∷ z) r.tokens);
    }

no_empty_gap : (rest : List ℕ) → IsGap [] rest → ⊥
no_empty_gap rest (blank c h f) = omega (arith, ap length f, length-encode c, (len_utf8_bounds c).0)
no_empty_gap rest (comment said a b f) = nothing 47 (47 ∷ said) f

token_some : (w rest : List ℕ) (k : TokenKind) → IsToken k w → [] ≡ w ++ rest → ⊥
token_some [] rest k t e = not_empty k t
token_some (x ∷ w) rest k t e = nothing x (w ++ rest) e

gap_some : (w rest : List ℕ) → IsGap w rest → [] ≡ w ++ rest → ⊥
gap_some [] rest i e = no_empty_gap rest i
gap_some (x ∷ w) rest i e = nothing x (w ++ rest) e

at_end : IsStuck []
at_end = record { no_gap = gap_some; no_token = λ k w rest t e. token_some w rest k t e }

pub one_lexing : OneLexing
one_lexing text ts us a b = (same_lex a.1 b.1 at_end at_end).tokens

stuck : (text : List ℕ) (at : ℕ) → (b : IsBadAt text at) → IsStuck (b.here ∷ b.rest)
stuck text at b = record { no_gap = b.no_gap; no_token = b.no_token }

pub bad_is_not_lexed : BadIsNotLexed
bad_is_not_lexed text at ts b a = nothing b.here b.rest (same_lex a.1 b.before at_end (stuck text at b)).rest

pub one_bad_place : OneBadPlace
one_bad_place text at other a b = (same_lex a.before b.before (stuck text at a) (stuck text other b)).place
