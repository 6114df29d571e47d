use Rattle.std.proofs.Common.{refl}
use Rattle.explanations.specs.CodeText.{rows_of_group}
use Rattle.explanations.proofs.Groups.{below, not_below, first, other}
use Rattle.explanations.proofs.table.rows_of.Goals as goal

pub returns-then-code-lt10 : goal.returns-then-code-lt10
unfolding rows_of_group
returns-then-code-lt10 c =
    first _ _ _ _ (below c.args.code 10 c.if-code-lt10.true) refl

pub returns-then-code-lt20 : goal.returns-then-code-lt20
unfolding rows_of_group
returns-then-code-lt20 c =
    other _ _ _ _ (not_below c.args.code 10 c.if-code-lt10.false) (
    first _ _ _ _ (below c.args.code 20 c.if-code-lt20.true) refl)

pub returns-then-code-lt30 : goal.returns-then-code-lt30
unfolding rows_of_group
returns-then-code-lt30 c =
    other _ _ _ _ (not_below c.args.code 10 c.if-code-lt10.false) (
    other _ _ _ _ (not_below c.args.code 20 c.if-code-lt20.false) (
    first _ _ _ _ (below c.args.code 30 c.if-code-lt30.true) refl))

pub returns-then-code-lt40 : goal.returns-then-code-lt40
unfolding rows_of_group
returns-then-code-lt40 c =
    other _ _ _ _ (not_below c.args.code 10 c.if-code-lt10.false) (
    other _ _ _ _ (not_below c.args.code 20 c.if-code-lt20.false) (
    other _ _ _ _ (not_below c.args.code 30 c.if-code-lt30.false) (
    first _ _ _ _ (below c.args.code 40 c.if-code-lt40.true) refl)))

pub returns-then-code-lt50 : goal.returns-then-code-lt50
unfolding rows_of_group
returns-then-code-lt50 c =
    other _ _ _ _ (not_below c.args.code 10 c.if-code-lt10.false) (
    other _ _ _ _ (not_below c.args.code 20 c.if-code-lt20.false) (
    other _ _ _ _ (not_below c.args.code 30 c.if-code-lt30.false) (
    other _ _ _ _ (not_below c.args.code 40 c.if-code-lt40.false) (
    first _ _ _ _ (below c.args.code 50 c.if-code-lt50.true) refl))))

pub returns-then-code-lt60 : goal.returns-then-code-lt60
unfolding rows_of_group
returns-then-code-lt60 c =
    other _ _ _ _ (not_below c.args.code 10 c.if-code-lt10.false) (
    other _ _ _ _ (not_below c.args.code 20 c.if-code-lt20.false) (
    other _ _ _ _ (not_below c.args.code 30 c.if-code-lt30.false) (
    other _ _ _ _ (not_below c.args.code 40 c.if-code-lt40.false) (
    other _ _ _ _ (not_below c.args.code 50 c.if-code-lt50.false) (
    first _ _ _ _ (below c.args.code 60 c.if-code-lt60.true) refl)))))

pub returns-then-code-lt100 : goal.returns-then-code-lt100
unfolding rows_of_group
returns-then-code-lt100 c =
    other _ _ _ _ (not_below c.args.code 10 c.if-code-lt10.false) (
    other _ _ _ _ (not_below c.args.code 20 c.if-code-lt20.false) (
    other _ _ _ _ (not_below c.args.code 30 c.if-code-lt30.false) (
    other _ _ _ _ (not_below c.args.code 40 c.if-code-lt40.false) (
    other _ _ _ _ (not_below c.args.code 50 c.if-code-lt50.false) (
    other _ _ _ _ (not_below c.args.code 60 c.if-code-lt60.false) (
    first _ _ _ _ (below c.args.code 100 c.if-code-lt100.true) refl))))))

pub returns : goal.returns
unfolding rows_of_group
returns c =
    other _ _ _ _ (not_below c.args.code 10 c.if-code-lt10.false) (
    other _ _ _ _ (not_below c.args.code 20 c.if-code-lt20.false) (
    other _ _ _ _ (not_below c.args.code 30 c.if-code-lt30.false) (
    other _ _ _ _ (not_below c.args.code 40 c.if-code-lt40.false) (
    other _ _ _ _ (not_below c.args.code 50 c.if-code-lt50.false) (
    other _ _ _ _ (not_below c.args.code 60 c.if-code-lt60.false) (
    other _ _ _ _ (not_below c.args.code 100 c.if-code-lt100.false) (
    refl)))))))
