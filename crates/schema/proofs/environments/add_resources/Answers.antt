use Rattle.std.specs.Prelude.{⊤}
use Rattle.std.specs.BTreeMap.{get}
use Rattle.schema.specs.Schemas.{place_cmp}
use Rattle.schema.specs.inner.Making.{PlaceMay, PlaceMust}
use Rattle.schema.proofs.FillingLemmas.{plain_step, plain_end}
use Rattle.schema.proofs.environments.add_resources.Goals as goal

pub loop-resource-preserved : goal.loop-resource-preserved
loop-resource-preserved c = λ last rest. c.loop-resource.invariant last
    (plain_step (PlaceMay c.args.action.now c.args.context.now c.args.principal.now) (PlaceMust c.args.action.now c.args.principal.now) (λ r. ⊤) c.args.resources.now c.loop-resource.resource-index c.resource-item.result
    (get place_cmp c.loop-resource.places) (get place_cmp c.add_place.new.places) (get place_cmp last) c.loop-resource-test.true c.resource-item.is c.in_ok-add_place.ensures rest)

pub returns : goal.returns
returns c = c.loop-resource.invariant c.loop-resource.places
    (plain_end (PlaceMay c.args.action.now c.args.context.now c.args.principal.now) (PlaceMust c.args.action.now c.args.principal.now) (λ r. ⊤) c.args.resources.now c.loop-resource.resource-index (get place_cmp c.loop-resource.places) c.loop-resource-test.false)
