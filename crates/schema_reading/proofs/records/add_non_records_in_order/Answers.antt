use Rattle.std.proofs.Common.{map}
use Rattle.schema_types.specs.NamesViews.{scope_of}
use Rattle.schema_reading.specs.inner.Uses.{listed_view}
use Rattle.schema_reading.proofs.SpreadLemmas.{tried_step, tried_end}
use Rattle.schema_reading.proofs.records.add_non_records_in_order.Goals as goal

pub loop-at-init : goal.loop-at-init
loop-at-init c = record { keeps = λ ns e among so. so; tries = λ last rest. rest }

pub loop-at-preserved : goal.loop-at-preserved
loop-at-preserved c = record {
  keeps = λ ns e among so. c.in_ok-add_non_record_at.ensures.keeps ns e among (c.loop-at.invariant.keeps ns e among so);
  tries = λ last rest. c.loop-at.invariant.tries last
      (tried_step (scope_of c.args.names.now) (map listed_view c.args.commons.now) c.args.order.now c.loop-at.at-index c.loop-at.known c.add_non_record_at.new.known last
      c.loop-at-test.true c.in_ok-add_non_record_at.ensures.tries rest);
}

pub returns-clause-keeps : goal.returns-clause-keeps
returns-clause-keeps c = c.loop-at.invariant.keeps

pub returns-clause-tries : goal.returns-clause-tries
returns-clause-tries c = c.loop-at.invariant.tries c.loop-at.known
    (tried_end (scope_of c.args.names.now) (map listed_view c.args.commons.now) c.args.order.now c.loop-at.at-index c.loop-at.known c.loop-at-test.false)
