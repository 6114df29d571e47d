use Rattle.schema_types.specs.NamesViews.{scope_of}
use Rattle.schema_reading.proofs.SpreadLemmas.{kept_one, tried_there, tried_nowhere}
use Rattle.schema_reading.proofs.records.add_non_record_at.Goals as goal

pub returns-in_ok-add_if_not_record-clause-keeps : goal.returns-in_ok-add_if_not_record-clause-keeps
returns-in_ok-add_if_not_record-clause-keeps c =
    kept_one (scope_of c.args.names.now) c.args.commons.now c.args.place c.index-commons-place.result c.args.known.now c.add_if_not_record.new.known
    c.if-place-commons.true c.index-commons-place.is c.in_ok-add_if_not_record.ensures

pub returns-in_ok-add_if_not_record-clause-tries : goal.returns-in_ok-add_if_not_record-clause-tries
returns-in_ok-add_if_not_record-clause-tries c =
    tried_there (scope_of c.args.names.now) c.args.commons.now c.args.place c.index-commons-place.result c.args.known.now c.add_if_not_record.new.known
    c.if-place-commons.true c.index-commons-place.is c.in_ok-add_if_not_record.ensures

pub returns-else-place-commons-clause-tries : goal.returns-else-place-commons-clause-tries
returns-else-place-commons-clause-tries c = tried_nowhere (scope_of c.args.names.now) c.args.commons.now c.args.place c.args.known.now c.if-place-commons.false
