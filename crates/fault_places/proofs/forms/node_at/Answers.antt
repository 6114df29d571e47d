use Rattle.std.proofs.Common.{ap, ◌∙◌}
use Rattle.fault_places.specs.Forms.{form_of, unwrapped, node_at}
use Rattle.fault_places.proofs.FormWalking.{node-step, node-none, node-end}
use Rattle.fault_places.proofs.forms.node_at.Goals as goal

pub loop-index-init : goal.loop-index-init
loop-index-init c = ap (λ f. node_at f c.args.path.now) (c.unwrapped-here.ensures ∙ ap unwrapped c.whole.ensures)

pub loop-index-preserved : goal.loop-index-preserved
loop-index-preserved c =
    node-step (form_of c.loop-index.here) (form_of c.in-Some.below) (form_of c.unwrapped-here-in-Some.result) c.args.path.now c.loop-index.index-index c.loop-index-test.true c.in-Some.ensures c.unwrapped-here-in-Some.ensures
    ∙ c.loop-index.invariant

pub returns-in-None : goal.returns-in-None
returns-in-None c =
    node-none (form_of c.loop-index.here) c.args.path.now c.loop-index.index-index c.loop-index-test.true c.in-None.ensures
    ∙ c.loop-index.invariant

pub returns : goal.returns
returns c =
    node-end (form_of c.loop-index.here) c.args.path.now c.loop-index.index-index c.loop-index-test.false ∙ c.loop-index.invariant
