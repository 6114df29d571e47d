-- A language by its levels of nesting: with n of them, and with any number.
use Rattle.std.proofs.Common.{◌≡◌, ℕ, suc, ◌+◌, ◌-◌, ◌≤◌, ◌<◌, List, [], ◌∷◌, ◌++◌, Result, length, refl, sym, subst, ◌∙◌, append_assoc, arith}
use Rattle.grammar_syntax.specs.declared.token.Token.{Token}
use Rattle.grammar_syntax.specs.declared.fault.StopCause.{StopCause}
use Rattle.grammar_syntax.specs.Kinds.{Kinds}
use Rattle.grammar_syntax.specs.Lang.{Lang, at_any}
use Rattle.grammar_syntax.specs.ParsesTo.{ParsesTo}
use Rattle.grammar_syntax.specs.ParserCombinators.{Parser, Read, Stop, StopReason, Unexpected, TooDeep}
use Rattle.grammar_syntax.specs.ParseResults.{Begins, BreaksAt, GoesOn, HasOneTree, HasOneAnswerWithin, ReadsWithin, ReadsFrontWithin, OpensNextLevel, whole_of}
use Rattle.grammar_syntax.proofs.Rules.{Rule, Levels, Opens}
use Rattle.grammar_syntax.proofs.Firm.{Firm}
use Rattle.grammar_syntax.proofs.Whole as whole
use Rattle.grammar_syntax.proofs.Whole.{Limited, opened_at}

-- n levels of nesting beside m
abbrev pub levels : ℕ → ℕ → Levels
levels n m = record { Deeper = n < m; Equal = n ≡ m }

read_of : {A : Type 0} (a b : A) (ts us : List Token) → Read a ts ≡ Read b us → ts ≡ us
read_of a b ts us h = cc

read_or_stop : {A : Type 0} (a : A) (w : StopReason) (ts us : List Token) → Read a ts ≡ Stop w us → ⊥
read_or_stop a w ts us h = cc

some_or_none : (b : Token) (bs : List Token) → [] ≡ b ∷ bs → ⊥
some_or_none b bs h = cc

module _ {A : Type 0} (G : ℕ → Lang A) (P : ℕ → Parser A) (ks : Kinds)
    (rule : (n m : ℕ) → n ≤ m → Rule (G (suc n)) (G (suc m)) (P (suc n)) (P (suc m)) ks (levels (suc n) (suc m))) (alive : (n : ℕ) → Begins (G (suc n)) []) where
  read_whole : (n : ℕ) (ts : List Token) (x : A) → G (suc n) ts x → P (suc n) ts ≡ Read x []
  read_whole n = whole.read_whole (G (suc n)) (P (suc n)) ks (levels (suc n) (suc n)) (rule n n (omega arith)) refl (alive n)

  begun : (m : ℕ) (front : List Token) (b : Token) (begin : Begins (G (suc m)) (front ++ b ∷ [])) → P (suc m) (front ++ b ∷ begin.more) ≡ Read begin.value []
  begun m front b begin = read_whole m (front ++ b ∷ begin.more) begin.value (subst (λ z. G (suc m) z begin.value) (append_assoc front (b ∷ []) begin.more) begin.derived)

  -- what n levels stop at, no more levels go on with, unless it was for the levels
  not_past : (n m : ℕ) (front : List Token) (b : Token) (more : List Token) (x : A) → n ≤ m → P (suc n) (front ++ b ∷ more) ≡ Read x (b ∷ more) → Begins (G (suc m)) (front ++ b ∷ []) → ⊥
  not_past n m front b more x le e begin =
      some_or_none b begin.more (sym (read_of x begin.value (b ∷ begin.more) [] (sym ((rule n m le).local.read front b more begin.more x e) ∙ begun m front b begin)))

  not_bad : (n m : ℕ) (front : List Token) (b : Token) (more : List Token) → n ≤ m → P (suc n) (front ++ b ∷ more) ≡ Stop Unexpected (b ∷ more) → Begins (G (suc m)) (front ++ b ∷ []) → ⊥
  not_bad n m front b more le e begin =
      read_or_stop begin.value Unexpected [] (b ∷ begin.more) (sym (begun m front b begin) ∙ (rule n m le).local.stop Unexpected tt front b more begin.more e)

  -- at some number of levels, so at some that is not less than n
  wide_begins : (n : ℕ) (front : List Token) (begin : Begins (at_any G) front) → Begins (G (suc (n + begin.derived.0))) front
  wide_begins n front begin =
      record { more = begin.more; value = begin.value; derived = (rule begin.derived.0 (n + begin.derived.0) (omega arith)).wider (front ++ begin.more) begin.value begin.derived.1 }

  opened : (n : ℕ) (ts rest : List Token) → Opens (G (suc n)) ts rest → Opens (at_any G) ts rest
  opened n ts rest o = record { front = o.front; token = o.token; more = o.more; here = o.here; whole = o.whole; begins = record { more = o.begins.more; value = o.begins.value; derived = (n, o.begins.derived) } }

  limited : (n : ℕ) → Limited (G (suc n)) (at_any G) (P (suc n))
  limited n = record {
    past = λ front b more x e begin. not_past n (n + begin.derived.0) front b more x (omega arith) e (wide_begins n (front ++ b ∷ []) begin);
    bad = λ front b more e begin. not_bad n (n + begin.derived.0) front b more (omega arith) e (wide_begins n (front ++ b ∷ []) begin);
    deep = λ ts rest e. opened (suc n) ts rest ((rule n (suc n) (omega arith)).deep (omega arith) ts rest e);
  }

  -- ---- the laws

  pub one_tree : (n : ℕ) → HasOneTree (G (suc n))
  one_tree n = whole.one_tree (G (suc n)) (P (suc n)) ks (levels (suc n) (suc n)) (rule n n (omega arith)) refl (alive n)

  pub one_answer : (n : ℕ) → HasOneAnswerWithin (G (suc n)) (at_any G)
  one_answer n = whole.one_answer (G (suc n)) (at_any G) (P (suc n)) ks (levels (suc n) (suc n)) (rule n n (omega arith)) refl (alive n) (limited n)

  -- one tree, at whatever levels it is derived
  pub one_tree_at_any : HasOneTree (at_any G)
  one_tree_at_any ts x y d e =
      one_tree (d.0 + e.0) ts x y ((rule d.0 (d.0 + e.0) (omega arith)).wider ts x d.1) ((rule e.0 (d.0 + e.0) (omega arith)).wider ts y e.1)

  -- ---- what a reader answers

  pub answered_whole : (n : ℕ) (ts rest : List Token) (read : Result A StopCause) → ParsesTo (P (suc n) ts) read rest
      → ReadsWithin (G (suc n)) (at_any G) ts (whole_of read (length ts - length rest) rest)
  answered_whole n = whole.answered_whole (G (suc n)) (at_any G) (P (suc n)) ks (levels (suc n) (suc n)) (rule n n (omega arith)) refl (alive n) (limited n)

  pub front_read : (n : ℕ) → Firm (G (suc n)) (P (suc n)) → (ts rest : List Token) (r : Result A StopCause) → ParsesTo (P (suc n) ts) r rest
      → ReadsFrontWithin (G (suc n)) (at_any G) ts r rest
  front_read n = whole.front_read (G (suc n)) (at_any G) (P (suc n)) ks (levels (suc n) (suc n)) (rule n n (omega arith)) refl (alive n) (limited n)

  -- ---- what is too deep opens the next level

  opens_next : (n : ℕ) (ts rest : List Token) (place : ℕ) (b : BreaksAt (G (suc n)) ts place rest) → P (suc n) ts ≡ Stop TooDeep rest
      → GoesOn (G (suc (suc n))) b.front rest
  opens_next n ts rest place b e =
      opened_at (G (suc (suc n))) b.front rest
      (subst (λ z. Opens (G (suc (suc n))) z rest) b.whole ((rule n (suc n) (omega arith)).deep (omega arith) ts rest e))

  pub next_level : (n : ℕ) → OpensNextLevel G (suc n)
  next_level n ts place r = (
    r.0,
    r.1,
    opens_next n ts r.0 place r.1
        (whole.deep_stop (G (suc n)) (at_any G) (P (suc n)) ks (levels (suc n) (suc n)) (rule n n (omega arith)) refl (alive n) (limited n)
        ts r.0 place r.1 r.2 (P (suc n) ts) refl),
  )
