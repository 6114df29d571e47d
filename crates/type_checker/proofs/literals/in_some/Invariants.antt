use Rattle.std.proofs.Common.{List, take, Contains}
use Rattle.std.specs.Bool.{Decides}
use Rattle.values.specs.declared.entity_uid.EntityUid.{EntityUid}
use Rattle.typing.specs.Literals.{AreEntityLiterals, IsActionIn}
use Rattle.type_checker.specs.Views.{typing_environment}
use Rattle.type_checker.proofs.literals.in_some.Given as goal

abbrev pub invariant-loop-member : goal.invariant-loop-member
invariant-loop-member l =
    (us : List EntityUid) × AreEntityLiterals (typing_environment l.env) (take l.member-index l.members) us
    × Decides l.found ((v : EntityUid) × Contains us v × IsActionIn (typing_environment l.env) l.action v)
