use Rattle.policy_grammar.proofs.Alone.{parts_join, each_spaced, each_alone}
use Rattle.policy_grammar.proofs.cut_laws.texts_are_self_contained.Goals as goal

pub returns : goal.returns
returns c = record { join = parts_join; spaced = each_spaced; each = each_alone }
