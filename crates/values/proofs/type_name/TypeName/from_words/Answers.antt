use Rattle.values.proofs.Joining.{joined_first}
use Rattle.values.proofs.type_name.TypeName.from_words.Goals as goal

pub loop-word-init : goal.loop-word-init
loop-word-init c = joined_first _ _ _ c.requires.some (c.in_ok-joined.ensures.ok)
