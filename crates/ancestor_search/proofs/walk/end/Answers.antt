use Rattle.std.proofs.Common.{take}
use Rattle.std.specs.Prelude.{slice_index_or}
use Rattle.std.proofs.lemmas.List.{take_more}
use Rattle.ancestor_search.proofs.Reading.{ends-more}
use Rattle.ancestor_search.proofs.walk.end.Goals as goal

pub loop-number-preserved : goal.loop-number-preserved
loop-number-preserved c =
    let i = c.loop-number.number-index in
    let ms = c.args.members.now in
    rw (take_more ms i 0 c.loop-number-test.true, c.note.ensures) (ends-more (take i ms) c.args.place.now.items c.loop-number.place.items c.loop-number.invariant (slice_index_or ms i 0))
