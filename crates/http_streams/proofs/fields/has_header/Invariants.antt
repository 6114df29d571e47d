use Rattle.std.proofs.Common.{◌≡◌, false, map, take}
use Rattle.std.specs.List.{list_any}
use Rattle.httparse.specs.Spans.{header_bytes}
use Rattle.http_streams.specs.Fields.{is_named}
use Rattle.http_streams.proofs.fields.has_header.Given as goal

abbrev pub invariant-loop-header : goal.invariant-loop-header
invariant-loop-header l = list_any (is_named l.name) (map (header_bytes l.buf) (take l.header-index l.headers)) ≡ false
