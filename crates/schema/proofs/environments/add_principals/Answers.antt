use Rattle.std.specs.Prelude.{⊤}
use Rattle.std.specs.BTreeMap.{get}
use Rattle.schema.specs.Schemas.{place_cmp}
use Rattle.schema.specs.inner.Filling.{SomeMay, SomeMust, HoldsForEach}
use Rattle.schema.specs.inner.Making.{PlaceMay, PlaceMust}
use Rattle.schema.proofs.FillingLemmas.{plain_step, plain_end}
use Rattle.schema.proofs.environments.add_principals.Goals as goal

pub loop-principal-preserved : goal.loop-principal-preserved
loop-principal-preserved c = λ last rest. c.loop-principal.invariant last
    (plain_step (λ p. SomeMay (PlaceMay c.args.action.now c.args.context.now p) c.args.resources.now) (λ p. SomeMust (PlaceMust c.args.action.now p) c.args.resources.now) (λ p. HoldsForEach (λ r. ⊤) c.args.resources.now) c.args.principals.now c.loop-principal.principal-index c.principal-item.result
    (get place_cmp c.loop-principal.places) (get place_cmp c.add_resources.new.places) (get place_cmp last) c.loop-principal-test.true c.principal-item.is c.in_ok-add_resources.ensures rest)

pub returns : goal.returns
returns c = c.loop-principal.invariant c.loop-principal.places
    (plain_end (λ p. SomeMay (PlaceMay c.args.action.now c.args.context.now p) c.args.resources.now) (λ p. SomeMust (PlaceMust c.args.action.now p) c.args.resources.now) (λ p. HoldsForEach (λ r. ⊤) c.args.resources.now) c.args.principals.now c.loop-principal.principal-index (get place_cmp c.loop-principal.places) c.loop-principal-test.false)
