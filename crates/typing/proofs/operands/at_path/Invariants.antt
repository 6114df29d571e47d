use Rattle.std.proofs.Common.{◌≡◌, drop}
use Rattle.typing.specs.Places.{follow}
use Rattle.typing.proofs.operands.at_path.Given as goal

-- what is left of the path leads on from here
abbrev pub invariant-loop-at : goal.invariant-loop-at
invariant-loop-at l = follow l.path l.whole ≡ follow (drop l.at-index l.path) l.expr
