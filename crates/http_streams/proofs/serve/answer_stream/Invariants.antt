use Rattle.std.proofs.Common.{◌≡◌, ℕ, ◌+◌, ◌<◌, ◌≤◌, List, length, vec_len}
use Rattle.std.specs.Io.KnownBytes.{Appends, Consumes}
use Rattle.std.specs.Vec.{vec_capacity}
use Rattle.http_streams.specs.declared.TheConstants.{MAX_HEAD}
use Rattle.http_streams.specs.declared.TheConstants.{MAX_READ, REPLY_ROOM}
use Rattle.http_streams.specs.declared.reply.TheConstants.{HEAD_ROOM}
use Rattle.http_streams.specs.Request.{IsUnfinished, StaysUnfinished}
use Rattle.http_streams.specs.Logs.{notes}
use Rattle.http_streams.specs.Stream.{Serves}
use Rattle.http_streams.proofs.serve.answer_stream.Given as goal

abbrev pub invariant-loop-turn : goal.invariant-loop-turn
invariant-loop-turn g l = record {
  heads : MAX_HEAD ≤ length l.room;
  some : 0 < length l.chunk;
  most : length l.chunk ≤ MAX_READ;
  head : HEAD_ROOM ≤ vec_len l.text;
  room : HEAD_ROOM + REPLY_ROOM ≤ vec_capacity l.text;
  unfinished : IsUnfinished l.buffer.items;
  below : StaysUnfinished l.buffer.items l.needed;
  read_count : g.R.Source.failed l.reader ≡ g.R.Source.failed l.fn.reader;
  write_count : g.W.Sink.failed l.writer ≡ g.W.Sink.failed l.fn.writer;
  log_count : g.L.Sink.failed l.log ≡ g.L.Sink.failed l.fn.log;
  line_room : g.S.Service.line_room ≤ vec_capacity l.line;
  so_far : (bytes : List ℕ) × (out : List ℕ) × (n : ℕ)
      × Consumes (g.R.Source.left l.fn.reader) (g.R.Source.left l.reader) bytes
      × Appends (g.W.Sink.holds l.fn.writer) (g.W.Sink.holds l.writer) out
      × Serves g.S.Answers.answers n l.fn.service bytes l.buffer.items out l.service
      × (l.turn ≤ length bytes)
      × (m : ℕ) × Serves (notes g.S.Service.lines g.L.Sink.holds) m l.fn.log bytes l.buffer.items out l.log;
}
