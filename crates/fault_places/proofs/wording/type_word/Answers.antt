use Rattle.fault_places.proofs.Listing.{leaf_word, boolean_word}
use Rattle.fault_places.proofs.wording.type_word.Goals as goal

pub returns-in-Boolean : goal.returns-in-Boolean
returns-in-Boolean c = leaf_word c.args.ty.now _ _ c.in-Leaf.is (boolean_word c.in-Leaf.leaf _ c.in-Boolean.is)
