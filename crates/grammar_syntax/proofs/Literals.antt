-- How far a string's body has been read.
use Rattle.std.proofs.Common.{◌≡◌, ℕ, suc, add-one, ◌+◌, ◌≤◌, ◌<◌, Bool, true, false, not, ◌==◌, List, [], ◌∷◌, ◌++◌, ◌⊎◌, inl, inr, refl, sym, ◌∙◌, ap, subst, arith, length, length-append, take, drop, get_or, nat_lt}
use Rattle.std.specs.Prelude.{encode_utf8}
use Rattle.std.specs.List.{list_any}
use Rattle.std.specs.Str.{IsUtf8, IsCharBoundary}
use Rattle.std.proofs.Math.Seq.{drop-cons}
use Rattle.std.proofs.lemmas.Bool.{cases_Bool, eqb-true, ltb-true, ltb-false}
use Rattle.std.proofs.lemmas.List.{append_assoc, append_cancel_left, append-nil, drop-drop, length-drop, take-append-drop, length-take-le}
use Rattle.std.proofs.lemmas.Str.{encode_ascii, IsUtf8-drop, IsCharBoundary-start, IsCharBoundary-end, IsCharBoundary-before_ascii, IsCharBoundary-from_rest}
use Rattle.grammar_syntax.specs.declared.piece.Piece.{Piece}
use Rattle.grammar_syntax.specs.declared.piece.Piece.TheVariants.{Byte}
use Rattle.grammar_syntax.specs.declared.piece.Escape.{Escape}
use Rattle.grammar_syntax.specs.Lexing.{IsEscape, letter, star, short, long, IsBody, done, itself, escape}
use Rattle.plain.specs.Words.{run}
use Rattle.grammar_syntax.specs.inner.Tokenizing.{NoEscape, IsFirstEscape, is_plain, character_of, is_literal, EndsLiteral, IsRead, IsLiteral}
use Rattle.grammar_syntax.specs.Strings.{piece_bytes, bytes_of, is_wildcard}
use Rattle.grammar_syntax.proofs.Escapes.{same_escape}
use Rattle.grammar_syntax.proofs.Bodies.{body_append, slash}
use Rattle.grammar_syntax.proofs.EscapeEnds.{cut_after}
use Rattle.grammar_syntax.proofs.Parts.{empty, heads, negated, nothing, past}

after_escape : {qs : List Piece} {w : List ℕ} (p : Piece) (x rest : List ℕ) → IsEscape p x → IsBody qs w → w ≡ x ++ rest → (ps : List Piece) × IsBody ps rest
after_escape p x rest i done e = let t = slash p x rest i in absurd (nothing 92 t.0 (e ∙ t.1))
after_escape p x rest i (itself {b = b} {w = w} n m h) e = let t = slash p x rest i in absurd (m (heads b 92 w t.0 (e ∙ t.1)))
after_escape p x rest i (escape {p = q} {ps = ps} y v j s h) e =
    let whole : x ++ rest ≡ y ++ v = sym e ∙ s in
    let same = same_escape p q x y rest v i j whole in
    let rests : rest ≡ v = append_cancel_left x rest v (whole ∙ ap (λ (z : List ℕ). z ++ v) (sym same.bytes)) in
    (ps, subst (IsBody ps) (sym rests) h)

-- a backslash at the front of a body begins an escape
never : {qs : List Piece} {w : List ℕ} (rest : List ℕ) → NoEscape (92 ∷ rest) → IsBody qs w → w ≡ 92 ∷ rest → ⊥
never rest n done e = nothing 92 rest e
never rest n (itself {b = b} {w = w} a m i) e = m (heads b 92 w rest e)
never rest n (escape {p = p} x v i s h) e = n p x v i (sym e ∙ s)

cut_at : (body : List ℕ) (at b : ℕ) → at < length body → get_or body at 0 ≡ b → drop at body ≡ b ∷ drop (at + 1) body
cut_at body at b h e = drop-cons body at 0 h ∙ (ap (λ (x : ℕ). x ∷ drop (suc at) body) e ∙ ap (λ (n : ℕ). b ∷ drop n body) (sym (add-one at)))

pub no_stop : (wild : Bool) (value body : List ℕ) (at : ℕ) → at < length body → get_or body at 0 ≡ 92 → NoEscape (drop at body) → IsRead wild value at body → ⊥
no_stop wild value body at h e n d =
    let cut = cut_at body at 92 h e in
    never (drop (at + 1) body) (subst NoEscape cut n) d.behind cut

bytes-append : (ps qs : List Piece) → bytes_of (ps ++ qs) ≡ bytes_of ps ++ bytes_of qs
bytes-append [] qs = refl
bytes-append (p ∷ ps) qs = ap (λ (x : List ℕ). piece_bytes p ++ x) (bytes-append ps qs) ∙ sym (append_assoc (piece_bytes p) (bytes_of ps) (bytes_of qs))

abbrev pub any_wildcard : List Piece → Bool
any_wildcard ps = list_any is_wildcard ps

no_wildcard-append : (ps qs : List Piece) → any_wildcard ps ≡ false → any_wildcard qs ≡ false → any_wildcard (ps ++ qs) ≡ false
no_wildcard-append [] qs a b = b
no_wildcard-append (p ∷ ps) qs a b = elim (cases_Bool (is_wildcard p)) [
  | inl y ↦ let f : true ≡ false = rw y at a in absurd (cc)
  | inr n ↦ let g : any_wildcard ps ≡ false = rw n at a in rw n (no_wildcard-append ps qs g b)
]

literal-append : (wild : Bool) (ps qs : List Piece) → is_literal wild ps ≡ true → is_literal wild qs ≡ true → is_literal wild (ps ++ qs) ≡ true
literal-append false ps qs a b = refl
literal-append true ps qs a b = ap not (no_wildcard-append ps qs (negated (any_wildcard ps) a) (negated (any_wildcard qs) b))

-- an escape's character
escape_bytes : (p : Piece) (w : List ℕ) → IsEscape p w → piece_bytes p ≡ encode_utf8 (character_of p)
escape_bytes p w (letter c meant e s m) = subst (λ (x : Piece). piece_bytes x ≡ encode_utf8 (character_of x)) (sym m) refl
escape_bytes p w (star s m) = subst (λ (x : Piece). piece_bytes x ≡ encode_utf8 (character_of x)) (sym m) (sym (encode_ascii 42 (omega arith)))
escape_bytes p w (short high low h l s m) = subst (λ (x : Piece). piece_bytes x ≡ encode_utf8 (character_of x)) (sym m) refl
escape_bytes p w (long digits a z h c s m) = subst (λ (x : Piece). piece_bytes x ≡ encode_utf8 (character_of x)) (sym m) refl

escape_tame : (p : Piece) (w : List ℕ) → IsEscape p w → is_wildcard p ≡ false
escape_tame p w (letter c meant e s m) = ap is_wildcard m
escape_tame p w (star s m) = ap is_wildcard m
escape_tame p w (short high low h l s m) = ap is_wildcard m
escape_tame p w (long digits a z h c s m) = ap is_wildcard m

literal_one : (wild : Bool) (p : Piece) → is_wildcard p ≡ false → is_literal wild (p ∷ []) ≡ true
literal_one false p h = refl
literal_one true p h = rw h refl

literal_none : (wild : Bool) → is_literal wild [] ≡ true
literal_none true = refl
literal_none false = refl

pub start_read : (wild : Bool) (value : List ℕ) (ps : List Piece) (body : List ℕ) → value ≡ [] → IsUtf8 body → IsBody ps body → IsRead wild value 0 body
start_read wild value ps body e u i = record {
  front = [];
  pieces = [];
  is = done;
  cut = refl;
  long = refl;
  literal = literal_none wild;
  value_is = e;
  boundary = IsCharBoundary-start body u;
  left = ps;
  behind = i;
}

-- what was read, and a part of the rest
grow : (wild : Bool) (value grown part w rest : List ℕ) (ps left : List Piece) (body : List ℕ) (at n : ℕ) → IsRead wild value at body → at ≤ length body → IsBody ps w → is_literal wild ps ≡ true → part ≡ bytes_of ps →
    grown ≡ value ++ part → drop at body ≡ w ++ rest → length w ≡ n → IsBody left rest → IsCharBoundary (drop at body) n → IsRead wild grown (at + n) body
grow wild value grown part w rest ps left body at n d h i l v g cut m behind b =
    let here : drop (at + n) body ≡ rest = sym (drop-drop n at body) ∙ (ap (λ (x : List ℕ). drop n x) cut ∙ (ap (λ (k : ℕ). drop k (w ++ rest)) (sym m) ∙ past w rest)) in
    record {
      front = d.front ++ w;
      pieces = d.pieces ++ ps;
      is = body_append d.is i;
      cut = d.cut ∙ (ap (λ (x : List ℕ). d.front ++ x) (cut ∙ ap (λ (x : List ℕ). w ++ x) (sym here)) ∙ sym (append_assoc d.front w (drop (at + n) body)));
      long = omega (arith, length-append d.front w, d.long, m);
      literal = literal-append wild d.pieces ps d.literal l;
      value_is = g ∙ (ap (λ (x : List ℕ). x ++ part) d.value_is ∙ (ap (λ (x : List ℕ). bytes_of d.pieces ++ x) v ∙ sym (bytes-append d.pieces ps)));
      boundary = IsCharBoundary-from_rest body at n h b;
      left = left;
      behind = subst (IsBody left) (sym here) behind;
    }

pub escape_more : (wild : Bool) (value grown body : List ℕ) (at c : ℕ) (f : Escape) → IsUtf8 body → at ≤ length body → IsFirstEscape f (drop at body) → c ≡ character_of f.piece → grown ≡ value ++ encode_utf8 c →
    IsRead wild value at body → IsRead wild grown (at + f.len) body
escape_more wild value grown body at c f u h i e g d =
    let a = after_escape f.piece i.w i.rest i.is d.behind i.cut in
    grow wild value grown (encode_utf8 c) i.w i.rest (f.piece ∷ []) a.0 body at f.len d h (escape i.w [] i.is (sym (append-nil i.w)) done) (literal_one wild f.piece (escape_tame f.piece i.w i.is))
    (ap encode_utf8 e ∙ (sym (escape_bytes f.piece i.w i.is) ∙ sym (append-nil (piece_bytes f.piece)))) g i.cut i.long a.1
    (cut_after f.piece (drop at body) i.w i.rest f.len (IsUtf8-drop body at u d.boundary) i.is i.cut i.long)

pub step_inside : (body : List ℕ) (at : ℕ) (f : Escape) → at ≤ length body → IsFirstEscape f (drop at body) → at + f.len ≤ length body
step_inside body at f h i = omega (arith, ap length i.cut, length-drop at body, length-append i.w i.rest, i.long)

-- Bytes at the front of a body that stand for themselves are pieces, and a body follows.
record Plain (wild : Bool) (w rest : List ℕ) : Type 0 where
  pieces : List Piece
  is : IsBody pieces w
  literal : is_literal wild pieces ≡ true
  bytes : w ≡ bytes_of pieces
  left : List Piece
  behind : IsBody left rest

no_plain : (wild : Bool) {ps : List Piece} (w : List ℕ) → IsBody ps w → Plain wild [] w
no_plain wild {ps} w i = record { pieces = []; is = done; literal = literal_none wild; bytes = refl; left = ps; behind = i }

not_plain_slash : (wild : Bool) → is_plain wild 92 ≡ false
unfolding is_plain
not_plain_slash wild = refl

plain_tame : (wild : Bool) (b : ℕ) → is_plain wild b ≡ true → is_literal wild (Byte b ∷ []) ≡ true
unfolding is_plain
plain_tame false b h = refl
plain_tame true b h = elim (cases_Bool (b == 42)) [
  | inl y ↦ elim (cases_Bool (b == 92)) [
    | inl x ↦ let f : false ≡ true = rw (x) at h in absurd (cc)
    | inr x ↦ let f : false ≡ true = rw (x, y) at h in absurd (cc)
  ]
  | inr n ↦ rw n refl
]

at_slash : (wild : Bool) (p : Piece) (ps : List Piece) (w x rest : List ℕ) → IsEscape p x → w ≡ x ++ rest → IsBody ps rest → Plain wild (take (run (is_plain wild) w) w) (drop (run (is_plain wild) w) w)
at_slash wild p ps [] x rest i s h = no_plain wild [] (escape x rest i s h)
at_slash wild p ps (c ∷ w) x rest i s h =
    let t = slash p x rest i in
    let same : c ≡ 92 = heads c 92 w t.0 (s ∙ t.1) in
    let stop : is_plain wild c ≡ false = ap (is_plain wild) same ∙ not_plain_slash wild in
    rw stop (no_plain wild (c ∷ w) (escape x rest i s h))

plain_run : (wild : Bool) {ps : List Piece} {w : List ℕ} → IsBody ps w → Plain wild (take (run (is_plain wild) w) w) (drop (run (is_plain wild) w) w)
plain_run wild done = no_plain wild [] done
plain_run wild (itself {b = b} {w = w} n m i) = elim (cases_Bool (is_plain wild b)) [
  | inl y ↦
      let r = plain_run wild i in
      rw y (record {
        pieces = Byte b ∷ r.pieces;
        is = itself n m r.is;
        literal = literal-append wild (Byte b ∷ []) r.pieces (plain_tame wild b y) r.literal;
        bytes = ap (λ (x : List ℕ). b ∷ x) r.bytes;
        left = r.left;
        behind = r.behind;
      })
  | inr x ↦ rw x (no_plain wild (b ∷ w) (itself n m i))
]
plain_run wild (escape {p = p} {ps = ps} {w = w} x rest i s h) = at_slash wild p ps w x rest i s h

run_stops : (p : ℕ → Bool) (cs : List ℕ) → run p cs < length cs → p (get_or cs (run p cs) 0) ≡ false
run_stops p [] h = absurd (omega arith)
run_stops p (c ∷ cs) h = elim (cases_Bool (p c)) [
  | inl y ↦ let g : suc (run p cs) < length (c ∷ cs) = rw y at h in let r = run_stops p cs (omega arith) in rw y r
  | inr n ↦ rw n n
]

run_short : (p : ℕ → Bool) (cs : List ℕ) → run p cs ≤ length cs
run_short p [] = omega arith
run_short p (c ∷ cs) = elim (cases_Bool (p c)) [
  | inl y ↦ let r = run_short p cs in rw y (omega arith)
  | inr n ↦ rw n (omega arith)
]

run_length : (p : ℕ → Bool) (cs : List ℕ) → length (take (run p cs) cs) ≡ run p cs
run_length p cs = length-take-le (run p cs) cs (run_short p cs)

-- what a byte that does not stand for itself is
stopped : (wild : Bool) (c : ℕ) → is_plain wild c ≡ false → (c ≡ 92) ⊎ ((wild ≡ true) × (c ≡ 42))
unfolding is_plain
stopped wild c h = elim (cases_Bool (c == 92)) [
  | inl y ↦ inl (eqb-true c 92 y)
  | inr n ↦ elim (cases_Bool wild) [
    | inl w ↦ elim (cases_Bool (c == 42)) [
      | inl y ↦ inr (w, eqb-true c 42 y)
      | inr m ↦ let f : true ≡ false = rw (n, w, m) at h in absurd (cc)
    ]
    | inr w ↦ let f : true ≡ false = rw (n, w) at h in absurd (cc)
  ]
]

-- A text may be cut where the bytes that stand for themselves end.
plain_cut : (wild : Bool) (rest : List ℕ) → IsCharBoundary rest (run (is_plain wild) rest)
plain_cut wild rest =
    let n = run (is_plain wild) rest in
    elim (cases_Bool (nat_lt n (length rest))) [
      | inl y ↦
          let inside = ltb-true n (length rest) y in
          elim (stopped wild (get_or rest n 0) (run_stops (is_plain wild) rest inside)) [
            | inl backslash ↦ IsCharBoundary-before_ascii rest n inside (omega arith)
            | inr stars ↦ let e = stars.1 in IsCharBoundary-before_ascii rest n inside (omega arith)
          ]
      | inr m ↦
          let out = ltb-false n (length rest) m in
          let short = run_short (is_plain wild) rest in
          let same : n ≡ length rest = omega arith in
          subst (IsCharBoundary rest) (sym same) (IsCharBoundary-end rest)
    ]

pub plain_cut_at : (wild : Bool) (body : List ℕ) (at n : ℕ) → at ≤ length body → n ≡ run (is_plain wild) (drop at body) → IsCharBoundary body (at + n)
plain_cut_at wild body at n h e = IsCharBoundary-from_rest body at n h (subst (IsCharBoundary (drop at body)) (sym e) (plain_cut wild (drop at body)))

pub plain_more : (wild : Bool) (value grown part body : List ℕ) (at n : ℕ) → at ≤ length body → n ≡ run (is_plain wild) (drop at body) → part ≡ take n (drop at body) → grown ≡ value ++ part →
    IsRead wild value at body → IsRead wild grown (at + n) body
plain_more wild value grown part body at n h e p g d =
    let r = plain_run wild d.behind in
    let rest = drop at body in
    let m = run (is_plain wild) rest in
    let read = grow wild value grown part (take m rest) (drop m rest) r.pieces r.left body at m d h r.is r.literal (p ∙ (ap (λ (k : ℕ). take k rest) e ∙ r.bytes)) g (sym (take-append-drop m rest)) (run_length (is_plain wild) rest) r.behind (plain_cut wild rest) in
    subst (λ (k : ℕ). IsRead wild grown (at + k) body) (sym e) read

-- the end of a body
pub read_all : (wild : Bool) (value body : List ℕ) (at : ℕ) → length body ≤ at → IsRead wild value at body → IsLiteral wild value at body
read_all wild value body at h d =
    let none = empty (drop at body) (omega (arith, length-drop at body)) in
    record { read = d; ends = subst (EndsLiteral wild) (sym none) tt }

no_run : (p : ℕ → Bool) (c : ℕ) (cs : List ℕ) → run p (c ∷ cs) ≡ 0 → p c ≡ false
no_run p c cs h = elim (cases_Bool (p c)) [
  | inl y ↦ let g : suc (run p cs) ≡ 0 = rw y at h in absurd (omega arith)
  | inr n ↦ n
]

-- a wildcard
pub read_up : (wild : Bool) (value body : List ℕ) (at n : ℕ) → at < length body → (get_or body at 0 ≡ 92 → ⊥) → n ≡ run (is_plain wild) (drop at body) → n ≡ 0 → IsRead wild value at body → IsLiteral wild value at body
read_up wild value body at n h m e z d =
    let b = get_or body at 0 in
    let cut : drop at body ≡ b ∷ drop (at + 1) body = cut_at body at b h refl in
    let none : run (is_plain wild) (b ∷ drop (at + 1) body) ≡ 0 = ap (run (is_plain wild)) (sym cut) ∙ (sym e ∙ z) in
    let stop : is_plain wild b ≡ false = no_run (is_plain wild) b (drop (at + 1) body) none in
    elim (stopped wild b stop) [
      | inl backslash ↦ absurd (m backslash)
      | inr wildcard ↦ record { read = d; ends = subst (EndsLiteral wild) (sym cut) wildcard }
    ]
