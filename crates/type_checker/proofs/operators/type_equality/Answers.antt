use Rattle.std.proofs.Common.{◌∙◌, ap, sym, subst}
use Rattle.type_checker.specs.Views.{Answers}
use Rattle.type_checker.specs.inner.Parts.{part_view}
use Rattle.type_checker.specs.inner.Rows.{entity_type_in}
use Rattle.type_checker.proofs.EqualRow.{equal_row, told_unequal}
use Rattle.type_checker.proofs.operators.type_equality.Goals as goal

pub returns-clause-row : goal.returns-clause-row
returns-clause-row c =
    subst (λ row. Answers c.if_common.result row) (sym (equal_row (part_view c.args.left) (part_view c.args.right)
    (told_unequal _ _ _ _ _ c.are_unequal.ensures (c.entity_of.ensures ∙ ap entity_type_in c.kind.ensures)
    (c.entity_of-2.ensures ∙ ap entity_type_in c.kind-2.ensures) c.if-are_unequal.false))) c.if_common.ensures.row
