use Rattle.std.proofs.Common.{refl, sym, ◌∙◌}
use Rattle.std.proofs.lemmas.Str.{IsCharBoundary-start}
use Rattle.policy_grammar.proofs.Cutting as cutting
use Rattle.policy_grammar.proofs.cuts.cut.Goals as goal

pub loop-token-init : goal.loop-token-init
loop-token-init c = record { same = rw c.new-texts.ensures.items refl; ordered = c.requires.ordered; spelled = c.requires.spelled; cut = IsCharBoundary-start c.args.text.now c.utf8.text }

pub loop-token-preserved-then-not-is_end : goal.loop-token-preserved-then-not-is_end
loop-token-preserved-then-not-is_end c =
    cutting.skip_at _ _ _ _ _ _ c.loop-token-test.true (sym c.is_end.ensures ∙ c.if-not-is_end.true) c.loop-token.invariant
