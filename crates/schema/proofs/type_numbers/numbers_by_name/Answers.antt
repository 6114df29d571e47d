use Rattle.std.specs.Prelude.{⊤}
use Rattle.std.specs.BTreeMap.{get}
use Rattle.values.specs.Names.{uid_cmp, text_cmp}
use Rattle.schema.specs.inner.Numbering.{NameMay, NameMust}
use Rattle.schema.proofs.FillingLemmas.{adds_first, plain_step, plain_end, get_empty}
use Rattle.schema.proofs.type_numbers.numbers_by_name.Goals as goal

pub loop-uid-init : goal.loop-uid-init
loop-uid-init c = λ last h.
    adds_first (NameMay (get uid_cmp c.args.numbers.now)) (NameMust (get uid_cmp c.args.numbers.now)) (λ u. ⊤) c.args.uids.now (get text_cmp c.new-named.result) last
    (get_empty text_cmp c.new-named.result c.new-named.ensures.empty) h

pub loop-uid-preserved : goal.loop-uid-preserved
loop-uid-preserved c = λ last rest. c.loop-uid.invariant last
    (plain_step (NameMay (get uid_cmp c.args.numbers.now)) (NameMust (get uid_cmp c.args.numbers.now)) (λ u. ⊤) c.args.uids.now c.loop-uid.uid-index c.uid-item.result
    (get text_cmp c.loop-uid.named) (get text_cmp c.add_name.new.named) last c.loop-uid-test.true c.uid-item.is c.in_ok-add_name.ensures rest)

pub returns : goal.returns
returns c = c.loop-uid.invariant (get text_cmp c.loop-uid.named)
    (plain_end (NameMay (get uid_cmp c.args.numbers.now)) (NameMust (get uid_cmp c.args.numbers.now)) (λ u. ⊤) c.args.uids.now c.loop-uid.uid-index (get text_cmp c.loop-uid.named) c.loop-uid-test.false)
