use Rattle.type_checker.specs.Views.{typing_environment}
use Rattle.type_checker.proofs.Settling.{stated_as, action_as}
use Rattle.type_checker.proofs.literals.as_literal.Goals as goal

pub returns-in-Literal : goal.returns-in-Literal
returns-in-Literal c = stated_as (typing_environment c.args.env) c.in-Literal.is c.lend.ensures

pub returns-in-Action : goal.returns-in-Action
returns-in-Action c = action_as (typing_environment c.args.env) c.in-Variable.is c.in-Action.is c.action.ensures
