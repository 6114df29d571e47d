use Rattle.std.proofs.Common.{refl}
use Rattle.grammar_core.specs.declared.expr.Expr.TheVariants as form
use Rattle.fault_places.proofs.Stepping.{after_is, after_other}
use Rattle.fault_places.proofs.steps.after.Goals as goal

pub returns-in-Unary : goal.returns-in-Unary
returns-in-Unary c =
    after_is c.args.expr.now c.args.at c.args.truth c.args.start c.args.known c.args.types c.in-Unary.is (form.outs-Unary _ _) refl refl refl

pub returns-in-Has : goal.returns-in-Has
returns-in-Has c =
    after_is c.args.expr.now c.args.at c.args.truth c.args.start c.args.known c.args.types c.in-Has.is (form.outs-Has _ _) refl refl refl

pub returns-in_default : goal.returns-in_default
returns-in_default c =
    after_other c.args.expr.now c.args.at c.args.truth c.args.start c.args.known c.args.types c.in_default.not-If c.in_default.not-And
    c.in_default.not-Or c.in_default.not-Unary c.in_default.not-Has

pub returns-in-And : goal.returns-in-And
returns-in-And c =
    after_is c.args.expr.now c.args.at c.args.truth c.args.start c.args.known c.args.types c.in-And.is (form.outs-And _ _) refl refl
    c.after_left.ensures

pub returns-in-Or : goal.returns-in-Or
returns-in-Or c =
    after_is c.args.expr.now c.args.at c.args.truth c.args.start c.args.known c.args.types c.in-Or.is (form.outs-Or _ _) refl refl
    c.after_left-in-Or.ensures
