use Rattle.std.proofs.Common.{◌+◌, ◌≤◌, List, length}
use Rattle.json_words.specs.Arrays.{unread_members}
use Rattle.json_words.proofs.Readings.{SoFar}
use Rattle.entity_data.specs.declared.entity.Entity.{Entity}
use Rattle.decision_texts.specs.EntityArrays.{entity_at}
use Rattle.decision_texts.specs.inner.Stores.{Holds}
use Rattle.decision_texts.proofs.entity_array.read_array.Given as goal

-- what was read is in the store
abbrev pub invariant-members : goal.invariant-members
invariant-members g l =
    (es : List Entity) × Holds l.store es × SoFar (entity_at (g.S.Setting.reading l.setting)) (unread_members l.fn.members) (unread_members l.members) l.place es
    × (l.place + length l.members.reader ≤ length l.fn.members.reader)

abbrev pub decreases-members : goal.decreases-members
decreases-members g l = length l.members.reader
