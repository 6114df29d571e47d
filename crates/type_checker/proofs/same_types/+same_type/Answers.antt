use Rattle.std.proofs.Common.{◌≡◌, ◌∙◌, ◌+◌, ◌<◌, ◌≤◌, suc, length, sym, subst, arith}
use Rattle.schema_types.specs.CedarViews.{cedar_view, cedar_fields_view}
use Rattle.type_checker.specs.FromSchemas.{static, static_fields}
use Rattle.type_checker.specs.inner.Parts.{fields_count}
use Rattle.type_checker.proofs.FieldLists.{declared_count}
use Rattle.type_checker.proofs.SameFields.{count_differs, same_more, key_differs, type_differs, same_all, told_same, told_apart, set_lighter, record_lighter, declared_here, declared_lighter}
use Rattle.type_checker.proofs.Weighing.{weight}
use Rattle.type_checker.proofs.same_types.+same_type.Goals as goal

pub same_fields-returns-then-right-count : goal.same_fields-returns-then-right-count
same_fields-returns-then-right-count t c =
    count_differs (static_fields (cedar_fields_view c.args.left.now)) (static_fields (cedar_fields_view c.args.right.now))
    (λ e. c.if-right-count.true
    (declared_count c.args.right.now ∙ (sym e ∙ sym (declared_count c.args.left.now))))

pub same_fields-returns-then-not-same_key : goal.same_fields-returns-then-not-same_key
same_fields-returns-then-not-same_key t c =
    let fs = c.args.left.now in
    let gs = c.args.right.now in
    let f = c.index-left-at.result in
    let g = c.index-right-at.result in
    let less : c.loop-at.at < length gs = omega (arith, c.loop-at-test.true, c.if-right-count.false) in
    key_differs (static_fields (cedar_fields_view fs)) (static_fields (cedar_fields_view gs)) c.loop-at.at f.0 g.0
    (static (cedar_view f.1)) (static (cedar_view g.1)) f.2 g.2
    (declared_here fs c.loop-at.at f c.loop-at-test.true c.index-left-at.is)
    (declared_here gs c.loop-at.at g less c.index-right-at.is) c.loop-at.invariant
    (sym c.if-not-same_key.true ∙ c.same_key.ensures)

pub same_fields-same_type-requires : goal.same_fields-same_type-requires
same_fields-same_type-requires t c = (
  subst (λ n. weight (static (cedar_view c.index-left-at.result.1)) < n) c.decreases
      (declared_lighter c.args.left.now c.loop-at.at c.index-left-at.result c.loop-at-test.true c.index-left-at.is),
  tt,
)

pub same_fields-returns-then-not-same_type : goal.same_fields-returns-then-not-same_type
same_fields-returns-then-not-same_type t c =
    let fs = c.args.left.now in
    let gs = c.args.right.now in
    let f = c.index-left-at.result in
    let g = c.index-right-at.result in
    let less : c.loop-at.at < length gs = omega (arith, c.loop-at-test.true, c.if-right-count.false) in
    type_differs (static_fields (cedar_fields_view fs)) (static_fields (cedar_fields_view gs)) c.loop-at.at f.0 g.0
    (static (cedar_view f.1)) (static (cedar_view g.1)) f.2 g.2
    (declared_here fs c.loop-at.at f c.loop-at-test.true c.index-left-at.is)
    (declared_here gs c.loop-at.at g less c.index-right-at.is) c.loop-at.invariant
    (sym c.if-not-same_key.false ∙ c.same_key.ensures)
    (told_apart _ _ c.same_type.result c.if-not-same_type.true c.same_type.ensures)

pub same_fields-loop-at-preserved : goal.same_fields-loop-at-preserved
same_fields-loop-at-preserved t c =
    let fs = c.args.left.now in
    let gs = c.args.right.now in
    let f = c.index-left-at.result in
    let g = c.index-right-at.result in
    let less : c.loop-at.at < length gs = omega (arith, c.loop-at-test.true, c.if-right-count.false) in
    let next : c.loop-at.at + 1 ≡ suc c.loop-at.at = omega arith in
    same_more (static_fields (cedar_fields_view fs)) (static_fields (cedar_fields_view gs)) c.loop-at.at f.0 g.0
    (static (cedar_view f.1)) (static (cedar_view g.1)) f.2 g.2
    (declared_here fs c.loop-at.at f c.loop-at-test.true c.index-left-at.is)
    (declared_here gs c.loop-at.at g less c.index-right-at.is) c.loop-at.invariant (c.loop-at.at + 1) next
    (sym c.if-not-same_key.false ∙ c.same_key.ensures)
    (told_same _ _ c.same_type.result c.if-not-same_type.false c.same_type.ensures)

pub same_fields-returns : goal.same_fields-returns
same_fields-returns t c =
    let fs = c.args.left.now in
    let gs = c.args.right.now in
    let past : fields_count (static_fields (cedar_fields_view fs)) ≤ c.loop-at.at = omega (arith, c.loop-at-test.false, declared_count fs) in
    let gone : fields_count (static_fields (cedar_fields_view gs)) ≤ c.loop-at.at =
    omega (arith, c.loop-at-test.false, c.if-right-count.false, declared_count gs) in
    same_all (static_fields (cedar_fields_view fs)) (static_fields (cedar_fields_view gs)) c.loop-at.at past gone
    c.loop-at.invariant

pub same_type-same_type-requires : goal.same_type-same_type-requires
same_type-same_type-requires t c =
    (set_lighter (static (cedar_view c.in-Set-Set.a.now)) _ t c.in-Set-Set.ensures c.decreases, tt)

pub same_type-same_fields-requires : goal.same_type-same_fields-requires
same_type-same_fields-requires t c =
    (record_lighter (static_fields (cedar_fields_view c.in-Record-Record.a.now)) _ t c.in-Record-Record.ensures c.decreases, tt)
