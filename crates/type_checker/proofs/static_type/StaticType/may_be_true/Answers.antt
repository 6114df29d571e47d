use Rattle.typing.specs.Rows.{MayBeTrue}
use Rattle.type_checker.proofs.Booleans.{some_is, none_is, true_boolean}
use Rattle.type_checker.proofs.static_type.StaticType.may_be_true.Goals as goal

pub returns-in-Some : goal.returns-in-Some
returns-in-Some c = some_is MayBeTrue _ c.in-Some.truth _ c.in-Some.ensures c.may_be_true.ensures

pub returns-in-None : goal.returns-in-None
returns-in-None c = none_is MayBeTrue _ (true_boolean _) c.in-None.ensures
