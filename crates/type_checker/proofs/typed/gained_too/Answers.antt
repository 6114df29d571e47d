use Rattle.std.proofs.Common.{refl}
use Rattle.type_checker.proofs.typed.gained_too.Goals as goal

pub returns : goal.returns
returns c = (c.in_ok-kind.field-0, c.in_ok-kind.was, refl, c.in_ok-gain_too.ensures)
