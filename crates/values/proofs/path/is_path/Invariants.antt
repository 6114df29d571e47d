use Rattle.std.specs.Prelude.{◌↔◌, length}
use Rattle.extensions.specs.plain.Words.{IsPath}
use Rattle.values.proofs.path.is_path.Given as goal

abbrev pub invariant-loop-tail : goal.invariant-loop-tail
invariant-loop-tail l = IsPath l.text ↔ IsPath l.rest

abbrev pub decreases-loop-tail : goal.decreases-loop-tail
decreases-loop-tail l = length l.rest
