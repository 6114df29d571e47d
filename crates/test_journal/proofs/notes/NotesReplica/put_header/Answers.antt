use Rattle.test_journal.proofs.Noted.{header_of}
use Rattle.test_journal.proofs.notes.NotesReplica.put_header.Goals as goal

pub returns : goal.returns
returns c = header_of c.put_record.result c.put_record.new.entry.items c.put_record.ensures.record
