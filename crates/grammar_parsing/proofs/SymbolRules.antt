-- Tokens that stand for something by their kind alone are read exactly.
use Rattle.std.proofs.Common.{◌≡◌, inl, true, List, [], ◌∷◌, ◌++◌, length, Option, Some, None, is_some, refl, sym, ap}
use Rattle.std.proofs.Common.{◌∙◌, length-append, arith}
use Rattle.grammar_syntax.specs.declared.token.Token.{Token}
use Rattle.grammar_syntax.specs.declared.token.TokenKind.{TokenKind}
use Rattle.grammar_syntax.specs.Kinds.{Kinds}
use Rattle.grammar_syntax.specs.ParserCombinators.{Read, Stop, StopReason, Unexpected, TooDeep}
use Rattle.grammar_syntax.specs.ParseResults.{Begins, sees}
use Rattle.grammar_syntax.proofs.Rules.{Rule, Levels, ReadsFront, Stops}
use Rattle.grammar_syntax.proofs.Forms.{Starts}
use Rattle.grammar_syntax.proofs.Openings.{Opening}
use Rattle.grammar_syntax.proofs.WellFormedLemmas.{Makes}
use Rattle.grammar_parsing.specs.Expressions as g
use Rattle.grammar_parsing.specs.Expressions.{known}
use Rattle.grammar_parsing.specs.inner.Reading as r
use Rattle.grammar_parsing.specs.inner.Reading.{symbol_by}

pub starts_symbol : {A : Type 0} (meaning : TokenKind → Option A) → Starts (g.symbol meaning) (known meaning)
starts_symbol meaning ts a h = ap (sees (known meaning)) h.1 ∙ ap is_some h.2

pub begin_symbol : {A : Type 0} (meaning : TokenKind → Option A) (kind : TokenKind) (a : A) → meaning kind ≡ Some a → Begins (g.symbol meaning) []
begin_symbol meaning kind a e =
    let t : Token = record { kind = kind; start = 0; end = 0 } in
    record { more = t ∷ []; value = a; derived = (t, refl, e) }

opens : {A : Type 0} (meaning : TokenKind → Option A) (t : Token) (o : Option A) → meaning t.kind ≡ o → is_some o ≡ true → Begins (g.symbol meaning) (t ∷ [])
opens meaning t (Some a) e h = record { more = []; value = a; derived = (t, refl, e) }
opens meaning t None e h = absurd (cc)

-- each token of the table begins something
pub opening_symbol : {A : Type 0} (meaning : TokenKind → Option A) → Opening (g.symbol meaning) (known meaning)
opening_symbol meaning t h = opens meaning t (meaning t.kind) refl h

-- no token of the tree
pub symbol_in : {A : Type 0} (all : List Token) (meaning : TokenKind → Option A) → Makes all (g.symbol meaning) (λ a. Unit {0})
symbol_in all meaning ts a d i = tt

symbol_read : {A : Type 0} (o : Option A) (t : Token) (a : A) (ts rest : List Token) → symbol_by o t ts ≡ Read a rest → (o ≡ Some a) × (ts ≡ rest)
symbol_read None t a ts rest h = absurd (cc)
symbol_read (Some b) t a ts rest h = (let e : b ≡ a = cc in ap Some e, cc)

symbol_stop : {A : Type 0} (o : Option A) (t : Token) (w : StopReason) (ts rest : List Token) → symbol_by o t ts ≡ Stop w rest → (o ≡ None) × (w ≡ Unexpected) × (rest ≡ t ∷ ts)
symbol_stop None t w ts rest h = (refl, cc, cc)
symbol_stop (Some b) t w ts rest h = absurd (cc)

longer : (t : Token) (ts : List Token) → ts ≡ t ∷ ts → ⊥
longer t ts h = let e = ap length h in omega (arith, e)

module _ {A : Type 0} (meaning : TokenKind → Option A) where
  sound_symbol : (ts : List Token) (a : A) (rest : List Token) → r.symbol meaning ts ≡ Read a rest → ReadsFront (g.symbol meaning) ts a rest
  unfolding r.symbol
  sound_symbol [] a rest h = absurd (cc)
  sound_symbol (t ∷ ts) a rest h =
      let e = symbol_read (meaning t.kind) t a ts rest h in
      record { front = t ∷ []; whole = ap (λ z. t ∷ z) e.1; derived = (t, refl, e.0) }

  complete_symbol : (front : List Token) (a : A) (rest : List Token) → g.symbol meaning front a → r.symbol meaning (front ++ rest) ≡ Read a rest
  unfolding r.symbol
  complete_symbol front a rest h = ap (λ z. r.symbol meaning (z ++ rest)) h.1 ∙ ap (λ o. symbol_by o h.0 rest) h.2

  stops_symbol : (ts rest : List Token) → rest ≡ ts → Stops (g.symbol meaning) ts rest
  stops_symbol ts rest h = record { front = []; whole = sym h; begins = inl refl }

  viable_symbol : (ts : List Token) (w : StopReason) (rest : List Token) → r.symbol meaning ts ≡ Stop w rest → Stops (g.symbol meaning) ts rest
  unfolding r.symbol
  viable_symbol [] w rest h = stops_symbol [] rest (cc)
  viable_symbol (t ∷ ts) w rest h = stops_symbol (t ∷ ts) rest (symbol_stop (meaning t.kind) t w ts rest h).2

  not_deep : (ts rest : List Token) → r.symbol meaning ts ≡ Stop TooDeep rest → ⊥
  unfolding r.symbol
  not_deep [] rest h = cc
  not_deep (t ∷ ts) rest h = let e = (symbol_stop (meaning t.kind) t TooDeep ts rest h).1 in cc

  read_again : (front : List Token) (b : Token) (more others : List Token) (a : A) → r.symbol meaning (front ++ b ∷ more) ≡ Read a (b ∷ more) → r.symbol meaning (front ++ b ∷ others) ≡ Read a (b ∷ others)
  unfolding r.symbol
  read_again [] b more others a h = absurd (longer b more (symbol_read (meaning b.kind) b a more (b ∷ more) h).1)
  read_again (t ∷ []) b more others a h = ap (λ o. symbol_by o t (b ∷ others)) (symbol_read (meaning t.kind) t a (b ∷ more) (b ∷ more) h).0
  read_again (t ∷ u ∷ front) b more others a h =
      let e = ap length (symbol_read (meaning t.kind) t a (u ∷ (front ++ b ∷ more)) (b ∷ more) h).1 in
      absurd (omega (arith, length-append front (b ∷ more), e))

  stop_again : (w : StopReason) (front : List Token) (b : Token) (more others : List Token) → r.symbol meaning (front ++ b ∷ more) ≡ Stop w (b ∷ more) → r.symbol meaning (front ++ b ∷ others) ≡ Stop w (b ∷ others)
  unfolding r.symbol
  stop_again w [] b more others h =
      let e = symbol_stop (meaning b.kind) b w more (b ∷ more) h in
      ap (λ o. symbol_by o b others) e.0 ∙ ap (λ z. Stop z (b ∷ others)) (sym e.1)
  stop_again w (t ∷ front) b more others h =
      let e = ap length (symbol_stop (meaning t.kind) t w (front ++ b ∷ more) (b ∷ more) h).2 in
      absurd (omega (arith, length-append front (b ∷ more), e))

  pub symbol_rule : (js : Kinds) (D : Levels) → Rule (g.symbol meaning) (g.symbol meaning) (r.symbol meaning) (r.symbol meaning) js D
  symbol_rule js D = record {
    sound = sound_symbol;
    complete = λ front a rest h _. complete_symbol front a rest h;
    viable = viable_symbol;
    wider = λ ts a h. h;
    local = record { read = read_again; stop = λ w keeps. stop_again w };
    deep = λ d ts rest h. absurd (not_deep ts rest h);
  }
