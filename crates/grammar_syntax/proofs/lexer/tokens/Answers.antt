use Rattle.std.proofs.Common.{◌≡◌, ◌<◌, ◌≤◌, ◌+◌, ◌-◌, List, ℕ, [], length, drop, arith, ap, subst, refl}
use Rattle.std.proofs.lemmas.List.{length-drop}
use Rattle.std.proofs.lemmas.Str.{IsCharBoundary-start, IsCharBoundary-from_rest}
use Rattle.std.specs.Str.{IsCharBoundary}
use Rattle.grammar_syntax.specs.Lexing.{finish}
use Rattle.grammar_syntax.specs.inner.Tokenizing.{IsGapOf, IsFirst}
use Rattle.grammar_syntax.proofs.GapTells.{Cuts, found_cuts}
use Rattle.grammar_syntax.proofs.Spelled.{all_spelled, in_order}
use Rattle.grammar_syntax.proofs.Joining.{lex_gap, lex_token, token_cuts}
use Rattle.grammar_syntax.proofs.lexer.tokens.Goals as goal

-- a part cut off the rest, as a step of the text
step_within : (text rest : List ℕ) (at len : ℕ) → at ≤ length text → rest ≡ drop at text → Cuts rest len → at + len ≤ length text
step_within text rest at len h e k = omega (arith, ap length e, length-drop at text, k.within)

step_cut : (text rest : List ℕ) (at len : ℕ) → at ≤ length text → rest ≡ drop at text → Cuts rest len → IsCharBoundary text (at + len)
step_cut text rest at len h e k = IsCharBoundary-from_rest text at len h (subst (λ (x : List ℕ). IsCharBoundary x len) e k.boundary)

step_smaller : (text rest : List ℕ) (at len : ℕ) → at < length text → Cuts rest len → length text - (at + len) < length text - at
step_smaller text rest at len h k = omega (arith, k.some)

pub loop-at-init : goal.loop-at-init
loop-at-init c = record { within = omega arith; cut = IsCharBoundary-start c.args.text.now c.utf8.text; lexed = rw c.in_ok-tokens.ensures.items finish }

pub loop-at-smaller-in-Some : goal.loop-at-smaller-in-Some
loop-at-smaller-in-Some c =
    step_smaller _ _ _ _ c.loop-at-test.true (found_cuts _ _ c.range_from-rest.utf8 c.in-Some.ensures)

pub loop-at-preserved-in-Some : goal.loop-at-preserved-in-Some
loop-at-preserved-in-Some c =
    let whole = c.range_from-rest.ensures.value in
    let cuts = found_cuts _ _ c.range_from-rest.utf8 c.in-Some.ensures in
    record {
      within = step_within _ _ _ _ c.loop-at.invariant.within whole cuts;
      cut = step_cut _ _ _ _ c.loop-at.invariant.within whole cuts;
      lexed = lex_gap _ _ _ _ (subst (IsGapOf c.in-Some.len) whole c.in-Some.ensures) c.loop-at.invariant.lexed;
    }

pub loop-at-preserved : goal.loop-at-preserved
loop-at-preserved c =
    let whole = c.range_from-rest.ensures.value in
    let cuts = token_cuts _ _ c.range_from-rest.utf8 c.in-Some-front.ensures in
    record {
      within = step_within _ _ _ _ c.loop-at.invariant.within whole cuts;
      cut = step_cut _ _ _ _ c.loop-at.invariant.within whole cuts;
      lexed = lex_token _ _ _ _ _ (subst (IsFirst c.in-Some-front.found) whole c.in-Some-front.ensures) c.in_ok-push.ensures.items c.loop-at.invariant.lexed;
    }

pub returns-clause-spelled : goal.returns-clause-spelled
returns-clause-spelled c = all_spelled c.args.text.now [] c.utf8.text refl refl c.loop-at.invariant.lexed

pub returns-clause-ordered : goal.returns-clause-ordered
returns-clause-ordered c = in_order 0 (omega arith) c.loop-at.invariant.lexed
