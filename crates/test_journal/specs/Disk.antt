-- Defines the moment of a device in memory.
-- Rules of this product: none; the device is one of the tests.
use Rattle.journal.specs.Moments.{Moment}
use Rattle.test_journal.specs.Texts.{texts}
use Rattle.test_journal.specs.declared.disk.Disk.{Disk}

-- `moment_of d` is the moment of the device `d`.
abbrev pub moment_of : Disk → Moment
moment_of d = record { file = d.file.items; durable = d.durable; replies = texts d.replies.items }
