use Rattle.std.proofs.Common.{◌∙◌, refl}
use Rattle.grammar_core.specs.declared.expr.Expr.TheViews.{out-Expr}
use Rattle.type_checker.specs.Views.{typing_environment}
use Rattle.typing.specs.Places.{operands_of}
use Rattle.fault_places.proofs.Stepping.{first, goes, follows_is, stands, ends, fewer}
use Rattle.fault_places.proofs.steps.step_from.Goals as goal

pub each-init : goal.each-init
each-init c =
    first (typing_environment c.args.env) c.args.known.now.items c.args.expr.now (out-Expr c.args.expr.now) refl c.truncate_types.ensures

pub returns-in-Ok-Faulty : goal.returns-in-Ok-Faulty
returns-in-Ok-Faulty c =
    goes (typing_environment c.args.env) c.args.known.now.items c.args.expr.now (out-Expr c.args.expr.now) refl c.each.at c.each.types.items
    c.each.invariant c.in-Some.ensures.item (rw c.in-Ok-Faulty.field-0-is at c.in-Ok-Faulty.ensures).0

pub returns-in-Blamed : goal.returns-in-Blamed
returns-in-Blamed c =
    follows_is (typing_environment c.args.env) c.args.known.now.items c.args.expr.now c.each.at c.len-start.result c.len-count.result
    c.len-collected.result (c.len-start.ensures ∙ c.args.known.now.ok.0) (c.len-count.ensures ∙ c.judge.new.known.ok.0)
    (c.len-collected.ensures ∙ c.judge.new.types.ok.0) c.each.invariant c.in-Some.ensures.item
    (rw c.in-Ok-Typed.field-0-is at c.in-Ok-Typed.ensures) c.in-Blamed.ensures

pub each-preserved : goal.each-preserved
each-preserved c =
    let E = typing_environment c.args.env in
    let ps = c.args.known.now.items in
    let x = c.args.expr.now in
    stands E ps x c.each.at c.in-Operand.behind c.in-Operand.capabilities c.in-Operand.demanded c.judge.new.known.items c.judge.new.types.items
    (follows_is E ps x c.each.at c.len-start.result c.len-count.result c.len-collected.result (c.len-start.ensures ∙ c.args.known.now.ok.0)
    (c.len-count.ensures ∙ c.judge.new.known.ok.0) (c.len-collected.ensures ∙ c.judge.new.types.ok.0) c.each.invariant c.in-Some.ensures.item
    (rw c.in-Ok-Typed.field-0-is at c.in-Ok-Typed.ensures) c.in-Operand.ensures)
    c.truncate.ensures.items c.truncate_types-in-Operand.ensures

pub each-smaller : goal.each-smaller
each-smaller c =
    let E = typing_environment c.args.env in
    let ps = c.args.known.now.items in
    let x = c.args.expr.now in
    fewer (operands_of x) c.each.at c.in-Operand.behind c.in-Some.next.now c.in-Some.ensures.item
    (follows_is E ps x c.each.at c.len-start.result c.len-count.result c.len-collected.result (c.len-start.ensures ∙ c.args.known.now.ok.0)
    (c.len-count.ensures ∙ c.judge.new.known.ok.0) (c.len-collected.ensures ∙ c.judge.new.types.ok.0) c.each.invariant c.in-Some.ensures.item
    (rw c.in-Ok-Typed.field-0-is at c.in-Ok-Typed.ensures) c.in-Operand.ensures).0

pub returns-in-None : goal.returns-in-None
returns-in-None c =
    ends (typing_environment c.args.env) c.args.known.now.items c.args.expr.now (out-Expr c.args.expr.now) refl c.each.at c.each.known.items
    c.each.types.items c.each.invariant c.in-None.ensures.item
