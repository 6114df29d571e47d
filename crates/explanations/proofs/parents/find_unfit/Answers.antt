use Rattle.std.proofs.Common.{◌≡◌, ◌∙◌, List, Option, true, false, IfOk, sym, subst}
use Rattle.schema_decisions.specs.schema.Views.{schema_view}
use Rattle.explanations.specs.Steps.{Step}
use Rattle.explanations.specs.inner.FoundParts.{fits}
use Rattle.explanations.proofs.Loops.{unfit_goes, unfit_stops, unfit_nameless, unfit_done}
use Rattle.explanations.proofs.parents.find_unfit.Goals as goal

pub returns-in-None : goal.returns-in-None
returns-in-None c =
    unfit_nameless (schema_view c.args.schema.now) c.args.uid.now c.args.parents.now c.loop-index.index c.index-parents-index.result _ c.loop-index-test.true c.index-parents-index.is
    (sym c.in-None.is ∙ c.in-Ok.ensures.found) c.loop-index.invariant

pub returns-then-not-fit : goal.returns-then-not-fit
returns-then-not-fit c =
    let bad : false ≡ fits (schema_view c.args.schema.now) c.args.uid.now c.in-Some.parent = cc in
    subst (λ (x : Option (List Step)). IfOk c.at_parent.result (λ o. o ≡ x))
    (unfit_stops (schema_view c.args.schema.now) c.args.uid.now c.args.parents.now c.loop-index.index c.index-parents-index.result c.in-Some.parent _ c.loop-index-test.true c.index-parents-index.is
    (sym c.in-Some.is ∙ c.in-Ok.ensures.found) bad c.loop-index.invariant)
    c.at_parent.ensures

pub loop-index-preserved : goal.loop-index-preserved
loop-index-preserved c =
    let good : true ≡ fits (schema_view c.args.schema.now) c.args.uid.now c.in-Some.parent = cc in
    unfit_goes (schema_view c.args.schema.now) c.args.uid.now c.args.parents.now c.loop-index.index c.index-parents-index.result c.in-Some.parent _ c.loop-index-test.true c.index-parents-index.is
    (sym c.in-Some.is ∙ c.in-Ok.ensures.found) good c.loop-index.invariant

pub returns : goal.returns
returns c = unfit_done (schema_view c.args.schema.now) c.args.uid.now c.args.parents.now c.loop-index.index _ c.loop-index-test.false c.loop-index.invariant

pub returns-in-Err : goal.returns-in-Err
returns-in-Err c = tt
