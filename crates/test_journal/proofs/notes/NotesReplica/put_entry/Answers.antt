use Rattle.test_journal.proofs.Noted.{entry_of}
use Rattle.test_journal.proofs.notes.NotesReplica.put_entry.Goals as goal

pub returns-clause-ok : goal.returns-clause-ok
returns-clause-ok c =
    entry_of c.args.self.now.pending.items c.deref.result.now c.put_record.new.entry.items c.deref.ensures.value c.in_ok-put_record.ensures.line
    c.in_ok-put_record.ensures.record
