use Rattle.std.proofs.Common.{◌+◌, [], None, Some, option_map, drop, sym, subst, ◌∙◌}
use Rattle.std.proofs.lemmas.Bool.{false≢true}
use Rattle.typing.specs.Rows.{MayBeTrue}
use Rattle.typing.specs.Typing.{Types}
use Rattle.type_checker.specs.Views.{boolean_view, typing_environment}
use Rattle.type_checker.specs.Conjunctions.{joined}
use Rattle.type_checker.specs.inner.Joining.{and_so_far, Leads}
use Rattle.type_checker.proofs.Carrying.{typed_so, false_so}
use Rattle.type_checker.proofs.JoiningLemmas.{leads_itself, leads_on, leads_to_false, at_part, at_last, last_typed}
use Rattle.type_checker.proofs.JoiningLemmas.{last_faulty}
use Rattle.type_checker.proofs.whole.judge_all.Goals as goal

pub loop-part-init : goal.loop-part-init
loop-part-init c =
    let E = typing_environment c.args.env in
    let whole = joined c.args.parts.now c.args.last.now in
    subst (λ K. Leads E None K whole whole) (sym c.new-known.ensures) (leads_itself E whole)

pub returns-then-not-is_right_checked-clause-typed : goal.returns-then-not-is_right_checked-clause-typed
returns-then-not-is_right_checked-clause-typed c =
    let E = typing_environment c.args.env in
    let xs = c.args.parts.now in
    let x = c.part-item.result in
    let i = c.loop-part.part-index in
    let last = c.args.last.now in
    let whole = joined xs last in
    let s = option_map boolean_view c.loop-part.so_far in
    let K = c.loop-part.known in
    let t = c.in-Ok.ensures in
    let h = at_part E s K xs last whole i x c.loop-part-test.true c.part-item.is c.loop-part.invariant in
    let b = c.in-Ok.truth in
    let n = λ (m : MayBeTrue (boolean_view b)). false≢true (sym c.if-not-is_right_checked.true ∙ c.is_right_checked.ensures.1 m) in
    let g = subst (λ u. Types E K x u t.0) (false_so b n) t.1 in
    let w = leads_to_false E s K t.0 x (joined (drop (i + 1) xs) last) whole h g in
    (w.0, subst (λ u. Types E [] whole u w.0) (sym c.boolean.ensures) w.1)

pub loop-part-preserved : goal.loop-part-preserved
loop-part-preserved c =
    let E = typing_environment c.args.env in
    let xs = c.args.parts.now in
    let x = c.part-item.result in
    let i = c.loop-part.part-index in
    let last = c.args.last.now in
    let whole = joined xs last in
    let rest = joined (drop (i + 1) xs) last in
    let s = option_map boolean_view c.loop-part.so_far in
    let K = c.loop-part.known in
    let t = c.in-Ok.ensures in
    let b = c.in-Ok.truth in
    let h = at_part E s K xs last whole i x c.loop-part-test.true c.part-item.is c.loop-part.invariant in
    let m = c.is_right_checked.ensures.0 c.if-not-is_right_checked.false in
    let w = leads_on E s K t.0 x rest whole (boolean_view b) h t.1 m in
    subst (λ o. Leads E o c.left_type.new.known rest whole) (sym c.and_one_more-so_far.ensures)
    (subst (λ M. Leads E (Some (and_so_far s (boolean_view b))) M rest whole) (sym t.2) w)

pub returns-in-Ok-type_of-clause-typed : goal.returns-in-Ok-type_of-clause-typed
returns-in-Ok-type_of-clause-typed c =
    let E = typing_environment c.args.env in
    let xs = c.args.parts.now in
    let last = c.args.last.now in
    let s = option_map boolean_view c.loop-part.so_far in
    let K = c.loop-part.known in
    let h = at_last E s K xs last (joined xs last) c.loop-part.part-index c.loop-part-test.false c.loop-part.invariant in
    let t = typed_so E K _ last c.in-Ok-type_of.is c.type_of.ensures in
    last_typed E s K _ last (joined xs last) _ _ h t.1 c.and_last.ensures

pub returns-in-Ok-type_of-clause-faulty : goal.returns-in-Ok-type_of-clause-faulty
returns-in-Ok-type_of-clause-faulty c =
    let E = typing_environment c.args.env in
    let xs = c.args.parts.now in
    let last = c.args.last.now in
    let s = option_map boolean_view c.loop-part.so_far in
    let K = c.loop-part.known in
    let h = at_last E s K xs last (joined xs last) c.loop-part.part-index c.loop-part-test.false c.loop-part.invariant in
    let t = typed_so E K _ last c.in-Ok-type_of.is c.type_of.ensures in
    last_faulty E s K _ last (joined xs last) _ _ h t.1 c.and_last.ensures
