use Rattle.std.proofs.Common.{◌∷◌, ◌+◌, List, ℕ, length, drop, arith, ap, subst, sym, ◌∙◌}
use Rattle.std.proofs.lemmas.List.{take_rest}
use Rattle.grammar_syntax.specs.inner.Tokenizing.{NoEscape, IsFirstEscape}
use Rattle.grammar_syntax.specs.declared.token.TokenKind.{TokenKind}
use Rattle.grammar_syntax.proofs.Bodies.{Passed, passed_quote}
use Rattle.grammar_syntax.proofs.BodyTells.{found_at, bad_at, ended_at, byte_at, escape_at, escape_within}
use Rattle.grammar_syntax.proofs.quoted.quoted.Goals as goal

pub loop-at-init : goal.loop-at-init
loop-at-init c = record {
  within = omega (arith, ap length c.requires.1);
  passed = passed_quote _ _ (c.requires.1 ∙ ap (λ (x : List ℕ). 34 ∷ x) (sym (ap (λ (x : List ℕ). drop 1 x) c.requires.1)));
}

pub returns-then-byte-eq34 : goal.returns-then-byte-eq34
returns-then-byte-eq34 c = found_at _ _ _ c.loop-at-test.true c.if-byte-eq34.true c.loop-at.invariant.passed

pub returns-in_default : goal.returns-in_default
returns-in_default c =
    bad_at _ _ _ c.loop-at-test.true c.if-byte-eq92.true (subst NoEscape (take_rest c.args.text.now c.loop-at.at) c.in_default.ensures) c.loop-at.invariant.passed

pub loop-at-preserved-then-byte-eq92 : goal.loop-at-preserved-then-byte-eq92
loop-at-preserved-then-byte-eq92 c =
    let found = subst (IsFirstEscape c.in-Some.escape) (take_rest c.args.text.now c.loop-at.at) c.in-Some.ensures in
    record {
      within = escape_within _ _ _ c.loop-at.invariant.within found;
      passed = subst (λ (k : TokenKind). Passed (c.loop-at.at + c.in-Some.escape.len) c.args.text.now (drop (c.loop-at.at + c.in-Some.escape.len) c.args.text.now) k) (sym c.kind_with-kind.ensures)
          (escape_at _ _ _ _ found c.loop-at.invariant.passed);
    }

pub loop-at-preserved : goal.loop-at-preserved
loop-at-preserved c = record {
  within = omega arith;
  passed = byte_at _ _ _ c.loop-at-test.true c.if-byte-eq34.false c.if-byte-eq92.false c.loop-at.invariant.passed;
}

pub returns : goal.returns
returns c = ended_at _ _ _ c.loop-at-test.false c.loop-at.invariant.passed
