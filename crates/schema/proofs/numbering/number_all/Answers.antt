use Rattle.std.proofs.Common.{◌≡◌}
use Rattle.std.specs.Prelude.{⊤}
use Rattle.std.specs.BTreeMap.{get}
use Rattle.std.specs.Borrow.{Bor}
use Rattle.values.specs.declared.entity_uid.EntityUid.{EntityUid}
use Rattle.values.specs.Names.{uid_cmp}
use Rattle.ancestor_search.specs.Hierarchy.{referenced}
use Rattle.schema.proofs.FillingLemmas.{adds_first, each_step, each_end}
use Rattle.schema.proofs.NumberLemmas.{given, all_given}
use Rattle.schema.proofs.numbering.number_all.Goals as goal

pub loop-uid-init : goal.loop-uid-init
loop-uid-init c = record {
  numbered = c.none_numbered-numbered.ensures.numbered;
  given = λ last h. adds_first (λ u q i. ⊤) (λ u q. u ≡ q) (λ u. ⊤) (referenced c.args.uids.now) (get uid_cmp c.none_numbered-numbered.result.numbers) last c.none_numbered-numbered.ensures.none h;
}

pub loop-uid-preserved : goal.loop-uid-preserved
loop-uid-preserved c = record {
  numbered = c.in_ok-add_number.ensures.keeps c.loop-uid.invariant.numbered;
  given = λ last rest. c.loop-uid.invariant.given last
      (each_step (λ u q i. ⊤) (λ u q. u ≡ q) (λ u. ⊤) (λ (b : Bor EntityUid). b.now) c.args.uids.now c.loop-uid.uid-index c.uid-item.result
      (get uid_cmp c.loop-uid.numbered.numbers) (get uid_cmp c.add_number.new.numbered.numbers) last c.loop-uid-test.true c.uid-item.is
      (given c.uid-item.result.now c.loop-uid.numbered c.add_number.new.numbered c.in_ok-add_number.ensures) rest);
}

pub returns-clause-all : goal.returns-clause-all
returns-clause-all c = all_given (referenced c.args.uids.now) (get uid_cmp c.loop-uid.numbered.numbers)
    (c.loop-uid.invariant.given (get uid_cmp c.loop-uid.numbered.numbers)
    (each_end (λ u q i. ⊤) (λ u q. u ≡ q) (λ u. ⊤) (λ (b : Bor EntityUid). b.now) c.args.uids.now c.loop-uid.uid-index (get uid_cmp c.loop-uid.numbered.numbers) c.loop-uid-test.false))
