use Rattle.typing.specs.Rows.{MayBeFalse}
use Rattle.type_checker.proofs.Booleans.{some_is, none_is, false_boolean}
use Rattle.type_checker.proofs.static_type.StaticType.may_be_false.Goals as goal

pub returns-in-Some : goal.returns-in-Some
returns-in-Some c = some_is MayBeFalse _ c.in-Some.truth _ c.in-Some.ensures c.may_be_false.ensures

pub returns-in-None : goal.returns-in-None
returns-in-None c = none_is MayBeFalse _ (false_boolean _) c.in-None.ensures
