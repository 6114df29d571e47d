use Rattle.std.proofs.Common.{refl}
use Rattle.std.proofs.lemmas.Result.{err_from_is_err_and}
use Rattle.json_words.specs.Each.{each}
use Rattle.schema_types.specs.NamesViews.{scope_of}
use Rattle.schema_reading.specs.Qualifying.{entity_type_named, entity_types_named}
use Rattle.json_words.proofs.EachSame.{same_ends}
use Rattle.schema_reading.proofs.GatheringLemmas.{one_more_same, none_more_same}
use Rattle.schema_reading.proofs.qualifying.qualify_names.Goals as goal

pub loop-word-init : goal.loop-word-init
unfolding each
loop-word-init c = rw c.new-found.ensures refl

pub returns-in_err-found : goal.returns-in_err-found
unfolding entity_types_named
returns-in_err-found c =
    let p = err_from_is_err_and c.from_residual.result c.from_residual.ensures.1 in
    rw (p.1, p.2) (none_more_same (λ i w. entity_type_named (scope_of c.args.names.now) c.args.own.now w) c.args.words.now c.loop-word.word-index c.word-item.result c.loop-word.found c.qualify_name.result c.in_err-found.field-0.0
    c.loop-word-test.true c.word-item.is c.loop-word.invariant c.qualify_name.ensures c.in_err-found.ensures.refused)

pub loop-word-preserved : goal.loop-word-preserved
loop-word-preserved c =
    one_more_same (λ i w. entity_type_named (scope_of c.args.names.now) c.args.own.now w) c.args.words.now c.loop-word.word-index c.word-item.result c.loop-word.found c.qualify_name.result c.in_ok-found.found
    c.loop-word-test.true c.word-item.is c.loop-word.invariant c.qualify_name.ensures c.in_ok-found.ensures.read

pub returns : goal.returns
unfolding entity_types_named
returns c = same_ends (λ i w. entity_type_named (scope_of c.args.names.now) c.args.own.now w) c.args.words.now c.loop-word.word-index c.loop-word.found c.loop-word-test.false c.loop-word.invariant
