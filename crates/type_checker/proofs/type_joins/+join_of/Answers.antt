use Rattle.std.proofs.Common.{◌≡◌, ◌+◌, ◌<◌, suc, sym, subst, arith}
use Rattle.typing.specs.Types.{common}
use Rattle.type_checker.specs.inner.Joins.{DescribesCommon}
use Rattle.type_checker.specs.inner.Parts.{part_view, fields_view, fields_count}
use Rattle.type_checker.specs.declared.type_joins.Join.TheVariants as join
use Rattle.type_checker.proofs.CommonFields.{both_at, pair_lighter, step_none, step_apart, is_there}
use Rattle.type_checker.proofs.JoinedFields.{told_sets, told_records, at_first, one_more, at_last, right_longer}
use Rattle.type_checker.proofs.Weighing.{weight}
use Rattle.type_checker.proofs.type_joins.+join_of.Goals as goal

pub join_of_fields-join_of-more-requires : goal.join_of_fields-join_of-more-requires
join_of_fields-join_of-more-requires t c = (
  subst (λ n. weight (part_view c.in-Some.pair.left) < n) c.decreases
      (pair_lighter (fields_view c.args.left) c.loop-at.at c.get.result c.get-in-loop-at.result c.in-Some.pair _ c.get.ensures c.in-Some.ensures),
  tt,
)

pub join_of_fields-loop-at-init : goal.join_of_fields-loop-at-init
join_of_fields-loop-at-init t c = at_first (fields_view c.args.left) (fields_view c.args.right)

pub join_of-returns-in-Set-Set : goal.join_of-returns-in-Set-Set
join_of-returns-in-Set-Set t c =
    told_sets c.join_of.result (part_view c.in-Set-Set.a) (part_view c.in-Set-Set.b) (part_view c.args.left) (part_view c.args.right)
    c.in-Set-Set.ensures c.in-Set-Set.ensures' c.join_of.ensures

pub join_of-returns-in-Some : goal.join_of-returns-in-Some
join_of-returns-in-Some t c =
    told_records c.in-Some.join (fields_view c.in-Record-Record.a) (fields_view c.in-Record-Record.b) (part_view c.args.left)
    (part_view c.args.right) c.in-Record-Record.ensures c.in-Record-Record.ensures' c.in-Some.ensures

pub join_of-returns-in-None : goal.join_of-returns-in-None
join_of-returns-in-None t c =
    told_records c.join_of_fields.result (fields_view c.in-Record-Record.a) (fields_view c.in-Record-Record.b) (part_view c.args.left)
    (part_view c.args.right) c.in-Record-Record.ensures c.in-Record-Record.ensures' c.join_of_fields.ensures

pub join_of_fields-returns-then-is_apart : goal.join_of_fields-returns-then-is_apart
join_of_fields-returns-then-is_apart t c =
    let apart = c.is_apart.ensures.0 c.if-is_apart.true in
    c.loop-at.invariant join.Apart
    (both_at (fields_view c.args.left) (fields_view c.args.right) c.loop-at.at c.get.result c.get-in-loop-at.result _ c.get.ensures c.get-in-loop-at.ensures
    (step_none c.get.result c.get-in-loop-at.result c.in-Some.pair _ _ (sym c.in-Some.ensures)
    (subst (λ j. DescribesCommon j (part_view c.in-Some.pair.left) (common (part_view c.in-Some.pair.left) (part_view c.in-Some.pair.right))) apart
    c.join_of-more.ensures)))

pub join_of_fields-loop-at-preserved : goal.join_of_fields-loop-at-preserved
join_of_fields-loop-at-preserved t c =
    let next : c.loop-at.at + 1 ≡ suc c.loop-at.at = omega arith in
    one_more (fields_view c.args.left) (fields_view c.args.right) c.loop-at.at (c.loop-at.at + 1) c.get.result
    c.get-in-loop-at.result c.in-Some.pair c.join_of-more.result c.loop-at.join c.with-join.result next c.loop-at.invariant
    c.get.ensures c.get-in-loop-at.ensures c.in-Some.ensures c.join_of-more.ensures c.with-join.ensures

pub join_of_fields-returns-in-None : goal.join_of_fields-returns-in-None
join_of_fields-returns-in-None t c =
    let less : c.loop-at.at < fields_count (fields_view c.args.left) = omega (arith, c.loop-at-test.true, c.len-count.ensures) in
    c.loop-at.invariant join.Apart
    (both_at (fields_view c.args.left) (fields_view c.args.right) c.loop-at.at c.get.result c.get-in-loop-at.result _ c.get.ensures c.get-in-loop-at.ensures
    (step_apart c.get.result c.get-in-loop-at.result _ _ (sym c.in-None.ensures)
    (is_there (fields_view c.args.left) c.loop-at.at c.get.result _ less c.get.ensures)))

pub join_of_fields-returns-in-Some-get : goal.join_of_fields-returns-in-Some-get
join_of_fields-returns-in-Some-get t c =
    let same : c.loop-at.at ≡ c.len-count.result = omega (arith, c.loop-at-test.false, c.loop-at.auto.at-end) in
    right_longer (fields_view c.args.left) (fields_view c.args.right) c.loop-at.at c.len-count.result c.loop-at.join
    c.in-Some-get.field-0 _ c.loop-at.invariant c.len-count.ensures same c.in-Some-get.ensures

pub join_of_fields-returns-in-None-get : goal.join_of_fields-returns-in-None-get
join_of_fields-returns-in-None-get t c =
    let same : c.loop-at.at ≡ c.len-count.result = omega (arith, c.loop-at-test.false, c.loop-at.auto.at-end) in
    at_last (fields_view c.args.left) (fields_view c.args.right) c.loop-at.at c.len-count.result c.loop-at.join
    c.loop-at.invariant c.len-count.ensures same c.in-None-get.ensures
