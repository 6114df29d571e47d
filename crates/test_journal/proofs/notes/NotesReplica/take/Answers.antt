use Rattle.std.proofs.Common.{map, refl}
use Rattle.test_journal.specs.Notes.{note}
use Rattle.test_journal.proofs.Noted.{more_noted}
use Rattle.test_journal.proofs.notes.NotesReplica.take.Goals as goal

pub returns-in-Ok-clause-ok : goal.returns-in-Ok-clause-ok
returns-in-Ok-clause-ok c = (
  map note c.in-Some.notes.now,
  (c.in-Some.notes.now, c.in-Some.ensures, refl),
  more_noted c.args.self.now.notes.items c.extend_from_slice.new.self.items c.in-Some.notes.now c.in-Ok.ensures.items,
)
