use Rattle.std.proofs.Common.{ap, ◌∙◌}
use Rattle.grammar_desugaring.specs.inner.Searching.{held}
use Rattle.grammar_desugaring.proofs.Repeating.{shown-step}
use Rattle.grammar_desugaring.proofs.repeats.names_of.Goals as goal

pub loop-key-preserved : goal.loop-key-preserved
loop-key-preserved c =
    shown-step held c.args.keys.now c.loop-key.key-index _ c.loop-key.marks.items c.push.new.self.items _ c.loop-key.invariant c.loop-key-test.true c.in_ok-push.ensures.items
    (c.as_str.ensures ∙ ap (λ k. k.name) c.key-item.is) (ap (λ k. k.at) c.key-item.is)
