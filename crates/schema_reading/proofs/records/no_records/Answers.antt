use Rattle.std.proofs.Common.{map, subst}
use Rattle.schema_types.specs.Names.{Scope}
use Rattle.schema_reading.specs.inner.StatedViews.{namespace_view}
use Rattle.schema_reading.specs.Qualifying.{commons_declared}
use Rattle.schema_reading.specs.inner.Spreading.{IsSettled}
use Rattle.schema_reading.proofs.SpreadLemmas.{tells}
use Rattle.schema_reading.proofs.records.no_records.Goals as goal

pub returns : goal.returns
returns c =
    let ns = map namespace_view c.args.stated.now in
    tells ns c.has_added_non_record.new.known (c.in_ok-has_added_non_record.ensures.spreads.sound ns c.requires.scope (λ x here. here) c.loop-known.invariant)
    (subst (λ (s : Scope). IsSettled s c.has_added_non_record.new.known (commons_declared ns)) c.requires.scope (c.in_ok-has_added_non_record.ensures.settled c.if-branch.false))
