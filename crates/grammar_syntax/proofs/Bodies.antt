-- How far a quoted text has been read.
use Rattle.std.proofs.Common.{◌≡◌, ℕ, suc, ◌+◌, List, [], ◌∷◌, ◌++◌, refl, sym, ◌∙◌, ap, arith, length, length-append}
use Rattle.std.proofs.lemmas.List.{append_assoc, append_cancel_left, append-nil}
use Rattle.grammar_syntax.specs.declared.piece.Piece.{Piece}
use Rattle.grammar_syntax.specs.declared.piece.Piece.TheVariants.{Byte, Char, Star}
use Rattle.grammar_syntax.specs.declared.token.TokenKind.{TokenKind}
use Rattle.grammar_syntax.specs.declared.token.TokenKind.TheVariants.{Text}
use Rattle.grammar_syntax.specs.Lexing.{IsEscape, IsBody, done, itself, escape, kind_of_pieces, IsToken, quoted, NoToken}
use Rattle.grammar_syntax.specs.inner.Tokenizing.{NoEscape, kind_with, IsFirst}
use Rattle.plain.specs.Words.{is_letter, is_digit}
use Rattle.grammar_syntax.proofs.Escapes.{shaped, same_escape}
use Rattle.grammar_syntax.proofs.FirstByte.{quotes, class, OfClass}
use Rattle.grammar_syntax.proofs.FrontTells.{begins}
use Rattle.grammar_syntax.proofs.Parts.{heads, tails}

clash_at : (a b : ℕ) (x y : List ℕ) → a ≡ 34 → b ≡ 92 → a ∷ x ≡ b ∷ y → ⊥
clash_at a b x y p q e = let h = heads a b x y e in omega arith

-- A quote is no backslash.
clash : (x y : List ℕ) → 34 ∷ x ≡ 92 ∷ y → ⊥
clash x y e = clash_at 34 92 x y refl refl e

-- An escape begins with a backslash.
pub slash : (p : Piece) (w rest : List ℕ) → IsEscape p w → (tail : List ℕ) × (w ++ rest ≡ 92 ∷ tail)
slash p w rest i = let t = shaped p w i in (t.b ∷ (t.tail ++ rest), ap (λ (y : List ℕ). y ++ rest) t.whole)

pub body_append : {ps qs : List Piece} {v w : List ℕ} → IsBody ps v → IsBody qs w → IsBody (ps ++ qs) (v ++ w)
body_append done g = g
body_append (itself n m h) g = itself n m (body_append h g)
body_append {w = w} (escape e rest i s h) g = escape e (rest ++ w) i (ap (λ (x : List ℕ). x ++ w) s ∙ append_assoc e rest w) (body_append h g)

kind-snoc : (ps : List Piece) (p : Piece) → kind_of_pieces (ps ++ p ∷ []) ≡ kind_with (kind_of_pieces ps) p
kind-snoc [] (Byte b) = refl
kind-snoc [] (Char c) = refl
kind-snoc [] Star = refl
kind-snoc (Byte x ∷ ps) p = kind-snoc ps p
kind-snoc (Char x ∷ ps) p = kind-snoc ps p
kind-snoc (Star ∷ ps) (Byte b) = refl
kind-snoc (Star ∷ ps) (Char b) = refl
kind-snoc (Star ∷ ps) Star = refl

-- what is left of a quoted text, at its rest
pub record Ahead (rest w more : List ℕ) (at : ℕ) : Type 0 where
  pub pieces : List Piece
  pub tail : List ℕ
  pub is : IsBody pieces tail
  pub cut : rest ≡ tail ++ 34 ∷ more
  pub long : suc (length w) ≡ at + length tail

-- The text was read as quoted up to this place, and any quoted text at its front goes on here.
pub record Passed (at : ℕ) (text rest : List ℕ) (kind : TokenKind) : Type 0 where
  pub pieces : List Piece
  pub body : List ℕ
  pub is : IsBody pieces body
  pub cut : text ≡ 34 ∷ (body ++ rest)
  pub long : at ≡ suc (length body)
  pub kind_is : kind ≡ kind_of_pieces pieces
  pub only : (ps : List Piece) (w more : List ℕ) → IsBody ps w → text ≡ 34 ∷ (w ++ 34 ∷ more) → Ahead rest w more at

pub passed_quote : (text rest : List ℕ) → text ≡ 34 ∷ rest → Passed 1 text rest Text
passed_quote text rest e = record {
  pieces = [];
  body = [];
  is = done;
  cut = e;
  long = refl;
  kind_is = refl;
  only = λ ps w more i f. record { pieces = ps; tail = w; is = i; cut = tails 34 34 rest (w ++ 34 ∷ more) (sym e ∙ f); long = omega arith };
}

-- what a quoted text goes on with at a byte that stands for itself
after_byte : (b : ℕ) (rest more : List ℕ) → (b ≡ 34 → ⊥) → (b ≡ 92 → ⊥) → (ps : List Piece) (w : List ℕ) → IsBody ps w → b ∷ rest ≡ w ++ 34 ∷ more →
    (qs : List Piece) × (v : List ℕ) × IsBody qs v × (rest ≡ v ++ 34 ∷ more) × (length w ≡ suc (length v))
after_byte b rest more n m ps w done e = absurd (n (heads b 34 rest more e))
after_byte b rest more n m ps w (itself {b = x} {ps = qs} {w = v} y z i) e = (qs, v, i, tails b x rest (v ++ 34 ∷ more) e, refl)
after_byte b rest more n m ps w (escape {p = p} x v i s h) e =
    let t = slash p x (v ++ 34 ∷ more) i in
    absurd (m (heads b 92 rest t.0 (e ∙ ((ap (λ (y : List ℕ). y ++ 34 ∷ more) s ∙ append_assoc x v (34 ∷ more)) ∙ t.1))))

pub passed_byte : (at b : ℕ) (text rest : List ℕ) (kind : TokenKind) → (b ≡ 34 → ⊥) → (b ≡ 92 → ⊥) → Passed at text (b ∷ rest) kind → Passed (at + 1) text rest kind
passed_byte at b text rest kind n m p = record {
  pieces = p.pieces ++ Byte b ∷ [];
  body = p.body ++ b ∷ [];
  is = body_append p.is (itself n m done);
  cut = p.cut ∙ ap (λ (x : List ℕ). 34 ∷ x) (sym (append_assoc p.body (b ∷ []) rest));
  long = omega (arith, p.long, length-append p.body (b ∷ []));
  kind_is = p.kind_is ∙ sym (kind-snoc p.pieces (Byte b));
  only = λ ps w more i f.
      let a = p.only ps w more i f in
      let s = after_byte b rest more n m a.pieces a.tail a.is a.cut in
      record { pieces = s.0; tail = s.1; is = s.2; cut = s.3; long = omega (arith, a.long, s.4) };
}

after_escape : (p : Piece) (e rest more : List ℕ) → IsEscape p e → (ps : List Piece) (w : List ℕ) → IsBody ps w → e ++ rest ≡ w ++ 34 ∷ more →
    (qs : List Piece) × (v : List ℕ) × IsBody qs v × (rest ≡ v ++ 34 ∷ more) × (length w ≡ length e + length v)
after_escape p e rest more i ps w done c =
    let t = slash p e rest i in
    absurd (clash more t.0 (sym c ∙ t.1))
after_escape p e rest more i ps w (itself {b = x} {w = v} n m h) c =
    let t = slash p e rest i in
    absurd (m (heads x 92 (v ++ 34 ∷ more) t.0 (sym c ∙ t.1)))
after_escape p e rest more i ps w (escape {p = q} {ps = qs} x v j s h) c =
    let whole : e ++ rest ≡ x ++ (v ++ 34 ∷ more) = c ∙ (ap (λ (y : List ℕ). y ++ 34 ∷ more) s ∙ append_assoc x v (34 ∷ more)) in
    let same = same_escape p q e x rest (v ++ 34 ∷ more) i j whole in
    let rests : rest ≡ v ++ 34 ∷ more = append_cancel_left e rest (v ++ 34 ∷ more) (whole ∙ ap (λ (y : List ℕ). y ++ (v ++ 34 ∷ more)) (sym same.bytes)) in
    (qs, v, h, rests, ap length s ∙ (length-append x v ∙ ap (λ (y : List ℕ). length y + length v) (sym same.bytes)))

pub passed_escape : (at n : ℕ) (p : Piece) (text e rest : List ℕ) (kind : TokenKind) → IsEscape p e → length e ≡ n → Passed at text (e ++ rest) kind → Passed (at + n) text rest (kind_with kind p)
passed_escape at n p text e rest kind i l g = record {
  pieces = g.pieces ++ p ∷ [];
  body = g.body ++ e;
  is = body_append g.is (escape e [] i (sym (append-nil e)) done);
  cut = g.cut ∙ ap (λ (x : List ℕ). 34 ∷ x) (sym (append_assoc g.body e rest));
  long = omega (arith, g.long, l, length-append g.body e);
  kind_is = ap (λ (k : TokenKind). kind_with k p) g.kind_is ∙ sym (kind-snoc g.pieces p);
  only = λ ps w more j f.
      let a = g.only ps w more j f in
      let s = after_escape p e rest more i a.pieces a.tail a.is a.cut in
      record { pieces = s.0; tail = s.1; is = s.2; cut = s.3; long = omega (arith, a.long, s.4, l) };
}

of_quotes : (k : TokenKind) (v : List ℕ) → OfClass (class 34) k (34 ∷ v) → OfClass quotes k (34 ∷ v)
unfolding is_letter is_digit
of_quotes k v o = o

-- a quoted text at the front, as its first byte says
quoted_front : (rest v more : List ℕ) (k : TokenKind) → IsToken k v → 34 ∷ rest ≡ v ++ more → (ps : List Piece) × (w : List ℕ) × IsBody ps w × (v ≡ 34 ∷ (w ++ 34 ∷ [])) × (rest ≡ w ++ 34 ∷ more)
quoted_front rest v more k t e =
    let b = begins k 34 rest v more t e in
    let o = of_quotes k b.tail b.is in
    let tail : b.tail ≡ o.1 ++ 34 ∷ [] = tails 34 34 b.tail (o.1 ++ 34 ∷ []) o.3 in
    (o.0, o.1, o.2, b.whole ∙ ap (λ (x : List ℕ). 34 ∷ x) tail, b.rest ∙ (ap (λ (x : List ℕ). x ++ more) tail ∙ append_assoc o.1 (34 ∷ []) more))

-- and where the text goes on, at the place that was reached
onward : (at : ℕ) (text rest v more : List ℕ) (kind k : TokenKind) → Passed at text rest kind → IsToken k v → text ≡ v ++ more →
    (tail : List ℕ) × (ps : List Piece) × IsBody ps tail × (rest ≡ tail ++ 34 ∷ more) × (length v ≡ suc (at + length tail))
onward at text rest v more kind k p t e =
    let q = quoted_front (p.body ++ rest) v more k t (sym p.cut ∙ e) in
    let a = p.only q.0 q.1 more q.2 (p.cut ∙ ap (λ (x : List ℕ). 34 ∷ x) q.4) in
    (a.tail, a.pieces, a.is, a.cut, omega (arith, ap length q.3, length-append q.1 (34 ∷ []), a.long))

ends_here : (rest more : List ℕ) (ps : List Piece) (tail : List ℕ) → IsBody ps tail → 34 ∷ rest ≡ tail ++ 34 ∷ more → length tail ≡ 0
ends_here rest more ps tail done e = refl
ends_here rest more ps tail (itself {b = x} {w = v} n m h) e = absurd (n (sym (heads 34 x rest (v ++ 34 ∷ more) e)))
ends_here rest more ps tail (escape {p = p} x v i s h) e =
    let t = slash p x (v ++ 34 ∷ more) i in
    absurd (clash rest t.0 (e ∙ ((ap (λ (y : List ℕ). y ++ 34 ∷ more) s ∙ append_assoc x v (34 ∷ more)) ∙ t.1)))

pub quoted_found : (at : ℕ) (text rest : List ℕ) (kind : TokenKind) → Passed at text (34 ∷ rest) kind → IsFirst (record { kind = kind; len = at + 1 }) text
quoted_found at text rest kind p =
    let cut : text ≡ (34 ∷ (p.body ++ 34 ∷ [])) ++ rest = p.cut ∙ ap (λ (x : List ℕ). 34 ∷ x) (sym (append_assoc p.body (34 ∷ []) rest)) in
    let long : length (34 ∷ (p.body ++ 34 ∷ [])) ≡ at + 1 = omega (arith, length-append p.body (34 ∷ []), p.long) in
    record {
      w = 34 ∷ (p.body ++ 34 ∷ []);
      rest = rest;
      cut = cut;
      longest = record {
        is = quoted p.pieces p.body p.is refl p.kind_is;
        longest = λ j v more t e.
            let o = onward at text (34 ∷ rest) v more kind j p t (cut ∙ e) in
            let none = ends_here rest more o.1 o.0 o.2 o.3 in
            omega (arith, o.4, none, long);
      };
      len = long;
    }

pub never_closed : (at : ℕ) (text rest : List ℕ) (kind : TokenKind) → length rest ≡ 0 → Passed at text rest kind → NoToken text
never_closed at text rest kind z p k v more t e =
    let o = onward at text rest v more kind k p t e in
    omega (arith, z, ap length o.3, length-append o.0 (34 ∷ more))

no_escape_here : (rest more : List ℕ) → NoEscape (92 ∷ rest) → (ps : List Piece) (tail : List ℕ) → IsBody ps tail → 92 ∷ rest ≡ tail ++ 34 ∷ more → ⊥
no_escape_here rest more n ps tail done e = clash more rest (sym e)
no_escape_here rest more n ps tail (itself {b = x} {w = v} a m h) e = m (sym (heads 92 x rest (v ++ 34 ∷ more) e))
no_escape_here rest more n ps tail (escape {p = p} x v i s h) e =
    n p x (v ++ 34 ∷ more) i (e ∙ (ap (λ (y : List ℕ). y ++ 34 ∷ more) s ∙ append_assoc x v (34 ∷ more)))

pub bad_escape : (at : ℕ) (text rest : List ℕ) (kind : TokenKind) → NoEscape (92 ∷ rest) → Passed at text (92 ∷ rest) kind → NoToken text
bad_escape at text rest kind n p k v more t e =
    let o = onward at text (92 ∷ rest) v more kind k p t e in
    no_escape_here rest more n o.1 o.0 o.2 o.3
