use Rattle.std.proofs.Common.{sym, subst}
use Rattle.policy_grammar.specs.inner.Parts.{AreSound}
use Rattle.policy_grammar.proofs.Joining.{sound-each}
use Rattle.policy_grammar.proofs.core_of.core_like.Goals as goal

pub conditions_like-requires-clause-sound : goal.conditions_like-requires-clause-sound
conditions_like-requires-clause-sound c =
    subst (AreSound c.args.text.now) (sym c.as_slice.ensures) (sound-each c.args.text.now c.args.tree.now.conditions c.requires.sound)
