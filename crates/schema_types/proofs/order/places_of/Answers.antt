use Rattle.std.proofs.Common.{◌∙◌, ap, sym}
use Rattle.schema_types.specs.declared.qualified.ResolvedCommon.{ResolvedCommon}
use Rattle.schema_types.proofs.Named.{place_step, place_done}
use Rattle.schema_types.proofs.order.places_of.Goals as goal

pub loop-place-preserved : goal.loop-place-preserved
loop-place-preserved c = λ q. place_step c.args.commons.now c.loop-place.place c.index-commons-place.result q c.loop-place.places c.insert.new.self c.in_ok-name.name _
    c.loop-place-test.true c.index-commons-place.is (c.in_ok-name.ensures.ok ∙ c.as_str.ensures ∙ ap (λ (x : ResolvedCommon). x.name) (sym c.index-commons-place.is)) c.in_ok-insert.ensures.updates (c.loop-place.invariant q)

pub returns : goal.returns
returns c = λ q. place_done c.args.commons.now c.loop-place.place q _ _ c.loop-place-test.false (c.loop-place.invariant q)
