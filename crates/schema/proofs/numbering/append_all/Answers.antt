use Rattle.std.proofs.Common.{◌++◌, refl}
use Rattle.ancestor_search.specs.Hierarchy.{referenced}
use Rattle.schema.proofs.NumberLemmas.{names_step, names_end}
use Rattle.schema.proofs.numbering.append_all.Goals as goal

pub loop-uid-preserved : goal.loop-uid-preserved
loop-uid-preserved c = names_step c.args.uids.now c.loop-uid.uid-index c.uid-item.result _ c.loop-uid.found.items c.push.new.self.items
    (referenced c.args.found.now.items ++ c.args.uids.now) c.loop-uid-test.true c.uid-item.is refl c.in_ok-push.ensures.items c.loop-uid.invariant

pub returns : goal.returns
returns c = names_end c.args.uids.now c.loop-uid.uid-index c.loop-uid.found.items (referenced c.args.found.now.items ++ c.args.uids.now) c.loop-uid-test.false c.loop-uid.invariant
