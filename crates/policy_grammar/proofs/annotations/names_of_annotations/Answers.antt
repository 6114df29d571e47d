use Rattle.std.proofs.Common.{refl}
use Rattle.policy_grammar.proofs.Marking.{annotation-step}
use Rattle.policy_grammar.proofs.annotations.names_of_annotations.Goals as goal

pub loop-annotation-preserved : goal.loop-annotation-preserved
loop-annotation-preserved c =
    annotation-step c.args.text.now c.as_slice-annotation-items.result.now c.loop-annotation.annotation-index _ c.loop-annotation.marks.items c.push.new.self.items _
    c.loop-annotation.invariant c.loop-annotation-test.true c.in_ok-push.ensures.items c.spelling.ensures.is refl
