use Rattle.typing.specs.Literals as literals
use Rattle.type_checker.proofs.literals.equal_decided_by_literals.Goals as goal

pub returns-in-Some-as_literal : goal.returns-in-Some-as_literal
returns-in-Some-as_literal c = literals.equal_literals c.in-Some.ensures c.in-Some-as_literal.ensures c.same_literal.ensures
