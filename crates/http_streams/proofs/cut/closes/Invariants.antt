use Rattle.std.proofs.Common.{◌≡◌, false, map, take}
use Rattle.std.specs.List.{list_any}
use Rattle.httparse.specs.Spans.{header_bytes}
use Rattle.http_streams.specs.Fields.{is_close}
use Rattle.http_streams.proofs.cut.closes.Given as goal

abbrev pub invariant-loop-header : goal.invariant-loop-header
invariant-loop-header l = list_any is_close (map (header_bytes l.buf) (take l.header-index l.headers)) ≡ false
