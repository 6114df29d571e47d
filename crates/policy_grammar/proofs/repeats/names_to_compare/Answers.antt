use Rattle.std.proofs.Common.{[], sym, ◌∙◌}
use Rattle.grammar_desugaring.specs.Repeats.{abstract_names}
use Rattle.policy_grammar.proofs.Doubtful.{doubtful-passed}
use Rattle.policy_grammar.proofs.repeats.names_to_compare.Goals as goal

pub loop-i-preserved-then-not-may_repeat : goal.loop-i-preserved-then-not-may_repeat
loop-i-preserved-then-not-may_repeat c =
    doubtful-passed c.args.text.now c.args.wide c.args.names.now c.args.trees.now c.loop-i.i [] c.index-trees-i.result (abstract_names c.loop-i.marks.items) c.loop-i.invariant
    c.requires.same c.loop-i-test.true c.index-trees-i.is (sym c.may_repeat.ensures ∙ c.if-not-may_repeat.true)
