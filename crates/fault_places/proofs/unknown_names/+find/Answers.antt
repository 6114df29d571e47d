use Rattle.std.proofs.Common.{arith, refl, ◌∙◌, ◌++◌, ◌∷◌, [], ap}
use Rattle.type_checker.specs.schema.Views.{schema_view}
use Rattle.fault_places.proofs.UnknownNames.{known_start, known_more, known_end, found_itself, found_below}
use Rattle.fault_places.proofs.UnknownNames.{lower_there, fewer_left, popped}
use Rattle.fault_places.proofs.unknown_names.+find.Goals as goal

pub each-init : goal.each-init
each-init t c = (refl, known_start (schema_view c.args.schema.now) c.args.expr.now)

pub find-requires : goal.find-requires
find-requires t c =
    let lt = lower_there c.args.expr.now c.each.at c.in-Some.next.now c.in-Some.ensures.item in
    (omega (arith, lt), tt)

pub returns-in-Ok-Some : goal.returns-in-Ok-Some
returns-in-Ok-Some t c =
    found_below (schema_view c.args.schema.now) c.args.expr.now c.args.path.now.items c.each.at c.in-Some.next.now
    c.in-Ok-Some.found c.push.new.self.items c.find.new.path.items
    c.in-Some.ensures.item c.each.invariant.1 (c.in_ok-push-in-Some.ensures.items ∙ ap (λ p. p ++ c.each.at ∷ []) c.each.invariant.0)
    (rw c.in-Ok-Some.field-0-is at c.in-Ok-Some.ensures)

pub returns-in-None : goal.returns-in-None
returns-in-None t c =
    let s = schema_view c.args.schema.now in
    found_itself s c.args.expr.now _ _ _ c.each.invariant.0 (known_end s c.args.expr.now c.each.at c.in-None.ensures.item c.each.invariant.1)
    c.own_unknown_name.ensures

pub each-preserved : goal.each-preserved
each-preserved t c =
    let s = schema_view c.args.schema.now in
    let after = c.find.new.path in
    let known = rw c.in-Ok-None.field-0-is at c.in-Ok-None.ensures in (
      popped c.each.path.items after.items c.pop.new.self.items c.each.at after.len (known.1 ∙ c.in_ok-push-in-Some.ensures.items) after.ok.0 c.pop.ensures.rest
          ∙ c.each.invariant.0,
      known_more s c.args.expr.now c.each.at c.in-Some.next.now c.in-Some.ensures.item c.each.invariant.1 known.0,
    )

pub each-smaller : goal.each-smaller
each-smaller t c = fewer_left c.args.expr.now c.each.at c.in-Some.next.now c.in-Some.ensures.item
