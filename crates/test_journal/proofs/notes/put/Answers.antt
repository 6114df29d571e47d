use Rattle.std.proofs.Common.{ℕ, List, [], ◌∷◌, map, ◌∙◌, ap}
use Rattle.stamped_store.specs.Store.{store_of}
use Rattle.test_journal.specs.Notes.{note, noted}
use Rattle.test_journal.proofs.Noted.{more_noted, more_pending, none_noted, none_pending}
use Rattle.test_journal.proofs.notes.put.Goals as goal

pub returns-in-Ok : goal.returns-in-Ok
returns-in-Ok c = (
  note c.in-Some.b.now ∷ [],
  more_noted c.args.replica.now.notes.items c.note_down.new.notes.items (c.in-Some.b.now ∷ []) c.in-Ok.ensures.notes,
  more_pending c.args.replica.now.pending.items c.note_down.new.pending.items (c.in-Some.b.now ∷ []) c.in-Ok.ensures.pending,
)

pub returns-in-Err : goal.returns-in-Err
returns-in-Err c = (
  [],
  ap (λ (notes : List ℕ). store_of (map note notes)) c.in-Err.ensures.err ∙ none_noted (noted c.args.replica.now),
  ap (map note) c.in-Err.ensures.same ∙ none_pending (map note c.args.replica.now.pending.items),
)

pub returns-in-None : goal.returns-in-None
returns-in-None c = ([], none_noted (noted c.args.replica.now), none_pending (map note c.args.replica.now.pending.items))
