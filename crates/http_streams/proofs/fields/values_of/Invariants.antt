use Rattle.std.proofs.Common.{map, take}
use Rattle.httparse.specs.Spans.{header_bytes}
use Rattle.http_streams.specs.Fields.{values_named}
use Rattle.http_streams.specs.inner.FieldValue.{IsFieldValue}
use Rattle.http_streams.proofs.fields.values_of.Given as goal

abbrev pub invariant-loop-header : goal.invariant-loop-header
invariant-loop-header l = IsFieldValue l.found (values_named l.name (map (header_bytes l.buf) (take l.header-index l.headers)))
