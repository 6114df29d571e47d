use Rattle.std.proofs.Common.{◌≡◌, ◌∙◌, List, Option, true, false, IfOk, sym, subst}
use Rattle.std.specs.Prelude.{is_some}
use Rattle.serde_json.specs.View.{view}
use Rattle.entities.specs.entity_uids.Uids.{uid_in}
use Rattle.explanations.specs.Steps.{Step}
use Rattle.explanations.proofs.Loops.{nameless_goes, nameless_stops, nameless_done}
use Rattle.explanations.proofs.forms.find_nameless.Goals as goal

pub returns-then-not-named : goal.returns-then-not-named
returns-then-not-named c =
    let bad : false ≡ is_some (uid_in (view c.index-parents-index.result)) = sym c.if-not-named.true ∙ c.in-Ok.ensures in
    subst (λ (x : Option (List Step)). IfOk c.at_parent.result (λ o. o ≡ x))
    (nameless_stops c.args.parents.now c.loop-index.index c.index-parents-index.result _ c.loop-index-test.true c.index-parents-index.is bad c.loop-index.invariant)
    c.at_parent.ensures

pub loop-index-preserved : goal.loop-index-preserved
loop-index-preserved c =
    let good : true ≡ is_some (uid_in (view c.index-parents-index.result)) = sym c.if-not-named.false ∙ c.in-Ok.ensures in
    nameless_goes c.args.parents.now c.loop-index.index c.index-parents-index.result _ c.loop-index-test.true c.index-parents-index.is good c.loop-index.invariant

pub returns : goal.returns
returns c = nameless_done c.args.parents.now c.loop-index.index _ c.loop-index-test.false c.loop-index.invariant

pub returns-in-Err : goal.returns-in-Err
returns-in-Err c = tt
