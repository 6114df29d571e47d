use Rattle.std.proofs.lemmas.Result.{err_from_is_err_and}
use Rattle.schema.specs.Views.{schema_view}
use Rattle.entities.proofs.ParentLemmas.{fit_goes, fit_stops, fit_ends}
use Rattle.entities.proofs.parents.demand_parents.Goals as goal

pub returns-in_err-demand_parent : goal.returns-in_err-demand_parent
returns-in_err-demand_parent c =
    let p = err_from_is_err_and c.from_residual.result c.from_residual.ensures.1 in
    rw (p.1, p.2) (fit_stops (schema_view c.args.schema.now) c.args.uid.now c.args.parents.now c.loop-parent.parent-index c.parent-item.result _ c.in_err-demand_parent.field-0.0
    c.loop-parent-test.true c.parent-item.is c.in_err-demand_parent.ensures c.loop-parent.invariant)

pub loop-parent-preserved : goal.loop-parent-preserved
loop-parent-preserved c =
    fit_goes (schema_view c.args.schema.now) c.args.uid.now c.args.parents.now c.loop-parent.parent-index c.parent-item.result _
    c.loop-parent-test.true c.parent-item.is c.in_ok-demand_parent.ensures c.loop-parent.invariant

pub returns : goal.returns
returns c =
    fit_ends (schema_view c.args.schema.now) c.args.uid.now c.args.parents.now c.loop-parent.parent-index _ c.loop-parent-test.false c.loop-parent.invariant
