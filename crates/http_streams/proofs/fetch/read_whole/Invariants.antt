use Rattle.std.proofs.Common.{◌≡◌, ◌+◌, ◌-◌, ◌<◌, ◌≤◌, length}
use Rattle.std.specs.Io.KnownBytes.{Consumes}
use Rattle.http_streams.specs.declared.TheConstants.{MAX_HEAD, MAX_REPLY}
use Rattle.http_streams.specs.declared.TheConstants.{MAX_READ}
use Rattle.http_streams.specs.Reply.{IsUnfinishedReply, StaysUnfinishedReply}
use Rattle.http_streams.proofs.fetch.read_whole.Given as goal

abbrev pub invariant-turns : goal.invariant-turns
invariant-turns g l = record {
  heads : MAX_HEAD ≤ length l.room;
  some : 0 < length l.chunk;
  most : length l.chunk ≤ MAX_READ;
  unfinished : IsUnfinishedReply l.buffer.items;
  below : StaysUnfinishedReply l.buffer.items l.needed;
  count : g.R.Source.failed l.reader ≡ g.R.Source.failed l.fn.reader;
  read : Consumes (g.R.Source.left l.fn.reader) (g.R.Source.left l.reader) l.buffer.items;
}

abbrev pub decreases-turns : goal.decreases-turns
decreases-turns g l = MAX_HEAD + MAX_REPLY - length l.buffer.items
