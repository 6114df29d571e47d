-- A loop of the code, beside the repetition that it reads.
use Rattle.std.proofs.Common.{◌≡◌, ℕ, zero, suc, ◌+◌, ◌-◌, ◌<◌, ◌≤◌, Bool, true, false, List, [], ◌∷◌, ◌++◌, refl, sym, ap, subst, ◌∙◌, arith, append_assoc, append-nil}
use Rattle.grammar_syntax.specs.declared.token.Token.{Token}
use Rattle.grammar_syntax.specs.ParseResults.{sees}
use Rattle.grammar_syntax.specs.Kinds.{Kinds}
use Rattle.std.proofs.Common.{Result, Err}
use Rattle.grammar_syntax.specs.declared.fault.StopCause.{StopCause}
use Rattle.grammar_syntax.specs.declared.fault.StopCause.TheVariants as halt
use Rattle.grammar_syntax.specs.ParsesTo.{ParsesTo}
use Rattle.grammar_syntax.specs.ParserCombinators.{Parser, ParseResult, Read, Stop, StopReason, Unexpected, TooDeep, and_then, pure, chosen, loop_from}

-- what is read with n more turns, behind what was found
abbrev pub gathered : {A : Type 0} → Kinds → Parser A → ℕ → List A → Parser (List A)
gathered ks p n found = λ ts. and_then (loop_from (λ s a. s) (λ s. ks) (λ s. p) n (tt {0}) ts) (λ more. pure (found ++ more))

skipped : {A : Type 0} (b : Bool) (p q : Parser A) (ts : List Token) → b ≡ false → chosen b p q ts ≡ q ts
skipped false p q ts h = refl
skipped true p q ts h = absurd (cc)

chose : {A : Type 0} (b : Bool) (p q : Parser A) (ts : List Token) → b ≡ true → chosen b p q ts ≡ p ts
chose true p q ts h = refl
chose false p q ts h = absurd (cc)

nothing_more : {A : Type 0} (ks : Kinds) (p : Parser A) (found : List A) (ts : List Token) → gathered ks p 0 found ts ≡ Read found ts
unfolding loop_from
nothing_more ks p found ts = ap (λ z. Read z ts) (append-nil found)

unseen : {A : Type 0} (ks : Kinds) (p : Parser A) (n : ℕ) (found : List A) (ts : List Token) → sees ks ts ≡ false → gathered ks p n found ts ≡ Read found ts
unfolding loop_from
unseen ks p zero found ts h = nothing_more ks p found ts
unseen ks p (suc n) found ts h = ap (λ o. and_then o (λ more. pure (found ++ more))) (skipped (sees ks ts) _ _ ts h) ∙ ap (λ z. Read z ts) (append-nil found)

regroup : {A : Type 0} (a : A) (found : List A) (o : ParseResult (List A))
    → and_then (and_then o (λ more. pure (a ∷ more))) (λ more. pure (found ++ more)) ≡ and_then o (λ more. pure ((found ++ a ∷ []) ++ more))
regroup a found (Read more rest) = ap (λ z. Read z rest) (sym (append_assoc found (a ∷ []) more))
regroup a found (Stop w rest) = refl

seen_read : {A : Type 0} (ks : Kinds) (p : Parser A) (n : ℕ) (found : List A) (ts mid : List Token) (a : A) → sees ks ts ≡ true → p ts ≡ Read a mid
    → gathered ks p (suc n) found ts ≡ gathered ks p n (found ++ a ∷ []) mid
unfolding loop_from
seen_read ks p n found ts mid a h e =
    ap (λ o. and_then o (λ more. pure (found ++ more))) (chose (sees ks ts) _ _ ts h ∙ ap (λ o. and_then o (λ a. λ us. and_then (loop_from (λ s a. s) (λ s. ks) (λ s. p) n (tt {0}) us) (λ more. pure (a ∷ more)))) e)
    ∙ regroup a found (loop_from (λ s a. s) (λ s. ks) (λ s. p) n (tt {0}) mid)

seen_stop : {A : Type 0} (ks : Kinds) (p : Parser A) (n : ℕ) (found : List A) (ts rest : List Token) (w : StopReason) → sees ks ts ≡ true → p ts ≡ Stop w rest → gathered ks p (suc n) found ts ≡ Stop w rest
unfolding loop_from
seen_stop ks p n found ts rest w h e =
    ap (λ o. and_then o (λ more. pure (found ++ more))) (chose (sees ks ts) _ _ ts h ∙ ap (λ o. and_then o (λ a. λ us. and_then (loop_from (λ s a. s) (λ s. ks) (λ s. p) n (tt {0}) us) (λ more. pure (a ∷ more)))) e)

-- before the end one turn at least is left, and the others behind it
turns_left : (end at : ℕ) → at < end → end - at ≡ suc (end - (at + 1))
turns_left end at below = omega arith

pub next_turn : {X : Type 0} {x : X} (end at : ℕ) → at < end → (left : ℕ → X) → x ≡ left (end - at) → x ≡ left (suc (end - (at + 1)))
next_turn {X} {x} end at below left e = subst (λ turns. x ≡ left turns) (turns_left end at below) e

pub no_more : {X : Type 0} {x : X} (f : ℕ → X) (n at : ℕ) → n ≤ at → x ≡ f (n - at) → x ≡ f 0
no_more f n at done e = let none : n - at ≡ 0 = omega arith in e ∙ ap f none

-- what a turn that stops gives
seen_err : {A : Type 0} (ks : Kinds) (p : Parser A) (n : ℕ) (found : List A) (ts rest : List Token) (e : StopCause) → sees ks ts ≡ true → ParsesTo (p ts) (Err e) rest → ParsesTo (gathered ks p (suc n) found ts) (Err e) rest
seen_err ks p n found ts rest halt.NoMemory h e = tt
seen_err ks p n found ts rest halt.Unexpected h e = seen_stop ks p n found ts rest Unexpected h e
seen_err ks p n found ts rest halt.TooDeep h e = seen_stop ks p n found ts rest TooDeep h e

pub instead : {A : Type 0} (o o' : ParseResult A) (r : Result A StopCause) (rest : List Token) → o ≡ o' → ParsesTo o' r rest → ParsesTo o r rest
instead o o' r rest e g = subst (λ z. ParsesTo z r rest) (sym e) g

-- ---- one turn of the code's loop, at the place at of end turns

module _ {A : Type 0} (ks : Kinds) (p : Parser A) (x : ParseResult (List A)) (end at : ℕ) (found : List A) (ts : List Token) where
  pub pushed : (put : List A) (a : A) (mid : List Token) → x ≡ gathered ks p (end - at) found ts → at < end → true ≡ sees ks ts → p ts ≡ Read a mid
      → put ≡ found ++ a ∷ [] → x ≡ gathered ks p (end - (at + 1)) put mid
  pushed put a mid e below seen r behind =
      next_turn end at below (λ n. gathered ks p n found ts) e
      ∙ seen_read ks p (end - (at + 1)) found ts mid a (sym seen) r
      ∙ ap (λ all. gathered ks p (end - (at + 1)) all mid) (sym behind)

  pub ended : x ≡ gathered ks p (end - at) found ts → false ≡ sees ks ts → x ≡ Read found ts
  ended e seen = e ∙ unseen ks p (end - at) found ts (sym seen)

  pub ran_out : x ≡ gathered ks p (end - at) found ts → end ≤ at → x ≡ Read found ts
  ran_out e done = no_more (λ n. gathered ks p n found ts) end at done e ∙ nothing_more ks p found ts

  pub stopped : (fault : StopCause) (rest : List Token) → x ≡ gathered ks p (end - at) found ts → at < end → true ≡ sees ks ts → ParsesTo (p ts) (Err fault) rest → ParsesTo x (Err fault) rest
  stopped fault rest e below seen g =
      instead x (gathered ks p (suc (end - (at + 1))) found ts) (Err fault) rest (next_turn end at below (λ n. gathered ks p n found ts) e)
      (seen_err ks p (end - (at + 1)) found ts rest fault (sym seen) g)

-- a repetition whose pieces are the result
pub as_read : {A : Type 0} (o : ParseResult A) → o ≡ and_then o (λ a. pure a)
as_read (Read a rest) = refl
as_read (Stop w rest) = refl

-- one level, or one turn, more
pub deeper : {X : Type 0} (f : ℕ → X) (n : ℕ) → 0 < n → f n ≡ f (suc (n - 1))
deeper f n some = let e : n ≡ suc (n - 1) = omega arith in ap f e
