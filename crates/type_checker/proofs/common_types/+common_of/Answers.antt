use Rattle.std.proofs.Common.{◌≡◌, ◌∙◌, ◌+◌, ◌<◌, suc, IfOk, option_map, ap, sym, subst, arith}
use Rattle.type_checker.specs.Views.{static_view}
use Rattle.type_checker.specs.inner.Parts.{part_view, fields_view, fields_count, fields_after}
use Rattle.type_checker.proofs.CommonFields.{both_at, ends_none, more, last_some, last_none, pair_lighter, step_none, step_apart, is_there}
use Rattle.type_checker.proofs.Weighing.{weight}
use Rattle.type_checker.proofs.common_types.+common_of.Goals as goal

pub common_record-common_of-requires : goal.common_record-common_of-requires
common_record-common_of-requires t c = (
  subst (λ n. weight (part_view c.in-Some.pair.left) < n) c.decreases
      (pair_lighter (fields_view c.args.left) c.loop-at.at c.get.result c.get-in-loop-at.result c.in-Some.pair _ c.get.ensures c.in-Some.ensures),
  tt,
)

pub common_record-returns-in-None-2 : goal.common_record-returns-in-None-2
common_record-returns-in-None-2 t c =
    ends_none (fields_view c.args.left) (fields_view c.args.right) c.loop-at.fields.items
    (fields_after c.loop-at.at (fields_view c.args.left)) (fields_after c.loop-at.at (fields_view c.args.right)) c.loop-at.invariant
    (both_at (fields_view c.args.left) (fields_view c.args.right) c.loop-at.at c.get.result c.get-in-loop-at.result _ c.get.ensures c.get-in-loop-at.ensures
    (step_none c.get.result c.get-in-loop-at.result c.in-Some.pair _ _ (sym c.in-Some.ensures)
    (sym c.in_ok-ty-in-Some.ensures ∙ ap (λ o. option_map (λ u. static_view u) o) c.in-None-2.is)))

pub common_record-returns-in-None : goal.common_record-returns-in-None
common_record-returns-in-None t c =
    let less : c.loop-at.at < fields_count (fields_view c.args.left) = omega (arith, c.loop-at-test.true, c.len-count.ensures) in
    ends_none (fields_view c.args.left) (fields_view c.args.right) c.loop-at.fields.items
    (fields_after c.loop-at.at (fields_view c.args.left)) (fields_after c.loop-at.at (fields_view c.args.right)) c.loop-at.invariant
    (both_at (fields_view c.args.left) (fields_view c.args.right) c.loop-at.at c.get.result c.get-in-loop-at.result _ c.get.ensures c.get-in-loop-at.ensures
    (step_apart c.get.result c.get-in-loop-at.result _ _ (sym c.in-None.ensures)
    (is_there (fields_view c.args.left) c.loop-at.at c.get.result _ less c.get.ensures)))

pub common_record-loop-at-preserved : goal.common_record-loop-at-preserved
common_record-loop-at-preserved t c =
    let next : c.loop-at.at + 1 ≡ suc c.loop-at.at = omega arith in
    rw c.in_ok-push-in-Some-2.ensures.items
    (more (fields_view c.args.left) (fields_view c.args.right) c.loop-at.fields.items c.loop-at.at (c.loop-at.at + 1)
    c.get.result c.get-in-loop-at.result c.in-Some.pair c.in-Some-2.ty next c.loop-at.invariant c.get.ensures c.get-in-loop-at.ensures
    c.in-Some.ensures (sym c.in_ok-ty-in-Some.ensures ∙ ap (λ o. option_map (λ u. static_view u) o) c.in-Some-2.is))

pub common_record-returns-in-Some-get : goal.common_record-returns-in-Some-get
common_record-returns-in-Some-get t c =
    let same : c.loop-at.at ≡ c.len-count.result = omega (arith, c.loop-at-test.false, c.loop-at.auto.at-end) in
    last_some (fields_view c.args.left) (fields_view c.args.right) c.loop-at.fields.items c.loop-at.at c.len-count.result
    c.in-Some-get.field-0 _ c.loop-at.invariant c.len-count.ensures same c.in-Some-get.ensures

pub common_record-returns : goal.common_record-returns
common_record-returns t c =
    let same : c.loop-at.at ≡ c.len-count.result = omega (arith, c.loop-at-test.false, c.loop-at.auto.at-end) in
    subst (λ z. IfOk c.record_of.result (λ o. option_map (λ u. static_view u) o ≡ z))
    (last_none (fields_view c.args.left) (fields_view c.args.right) c.loop-at.fields.items c.loop-at.at c.len-count.result
    c.loop-at.invariant c.len-count.ensures same c.in-None-get.ensures) c.record_of.ensures
