use Rattle.std.proofs.Common.{◌≡◌, drop}
use Rattle.fault_places.specs.Forms.{depth, peeled}
use Rattle.fault_places.proofs.forms.unwrapped.Given as goal

abbrev pub invariant-loop-tree : goal.invariant-loop-tree
invariant-loop-tree l =
    (peeled (depth l.tree) l.tree ≡ peeled (depth l.initial.tree) l.initial.tree)
    × (drop (depth l.tree) l.tokens ≡ drop (depth l.initial.tree) l.initial.tokens)
