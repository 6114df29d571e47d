use Rattle.std.proofs.Common.{◌≡◌, map, take, drop}
use Rattle.sync_format.specs.inner.Reading.{stated_update, AreReadInRange}
use Rattle.sync_format.proofs.reading.read_all.Given as goal

-- the updates so far, and the remaining entries
abbrev pub invariant-loop-place : goal.invariant-loop-place
invariant-loop-place g l = record {
  taken : AreReadInRange (g.B.Readings.reads_policy l.bodies) (g.B.Readings.reads_entity l.bodies) 0 (map stated_update (take l.place l.fn.entries.items)) l.updates.items;
  left : l.rest.items ≡ drop l.place l.fn.entries.items;
}
