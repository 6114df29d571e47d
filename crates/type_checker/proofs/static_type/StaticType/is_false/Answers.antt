use Rattle.std.proofs.Common.{◌≡◌}
use Rattle.typing.specs.Types.{false_type}
use Rattle.type_checker.proofs.Booleans.{some_is, none_is, equals_false}
use Rattle.type_checker.proofs.static_type.StaticType.is_false.Goals as goal

pub returns-in-Some : goal.returns-in-Some
returns-in-Some c = some_is (λ t. t ≡ false_type) _ c.in-Some.truth _ c.in-Some.ensures c.is_false.ensures

pub returns-in-None : goal.returns-in-None
returns-in-None c = none_is (λ t. t ≡ false_type) _ (equals_false _) c.in-None.ensures
