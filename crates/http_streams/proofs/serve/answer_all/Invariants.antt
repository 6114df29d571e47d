use Rattle.std.proofs.Common.{◌≡◌, ℕ, ◌+◌, ◌-◌, ◌≤◌, List, length, drop, vec_len}
use Rattle.std.specs.Io.KnownBytes.{Appends}
use Rattle.std.specs.Vec.{vec_capacity}
use Rattle.http_streams.specs.declared.TheConstants.{REPLY_ROOM}
use Rattle.http_streams.specs.declared.reply.TheConstants.{HEAD_ROOM}
use Rattle.http_streams.specs.Logs.{notes}
use Rattle.http_streams.specs.Stream.{Serves}
use Rattle.http_streams.proofs.serve.answer_all.Given as goal

abbrev pub invariant-requests : goal.invariant-requests
invariant-requests g l =
    (l.at ≤ length l.bytes)
    × ((out : List ℕ) × (n : ℕ) × Appends (g.W.Sink.holds l.fn.writer) (g.W.Sink.holds l.writer) out
    × Serves g.S.Answers.answers n l.fn.service l.bytes (drop l.at l.bytes) out l.service
    × (m : ℕ) × Serves (notes g.S.Service.lines g.L.Sink.holds) m l.fn.log l.bytes (drop l.at l.bytes) out l.log)
    × (g.W.Sink.failed l.writer ≡ g.W.Sink.failed l.fn.writer)
    × (HEAD_ROOM ≤ vec_len l.text)
    × (HEAD_ROOM + REPLY_ROOM ≤ vec_capacity l.text)
    × (g.L.Sink.failed l.log ≡ g.L.Sink.failed l.fn.log)
    × (g.S.Service.line_room ≤ vec_capacity l.line)

abbrev pub decreases-requests : goal.decreases-requests
decreases-requests g l = length l.bytes - l.at
