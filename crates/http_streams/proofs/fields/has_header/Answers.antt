use Rattle.std.proofs.Common.{sym}
use Rattle.httparse.specs.Spans.{header_bytes}
use Rattle.http_streams.specs.Fields.{is_named}
use Rattle.http_streams.proofs.CutLemmas.{list_any_at}
use Rattle.http_streams.proofs.fields.has_header.Goals as goal

pub returns-then-has_name : goal.returns-then-has_name
returns-then-has_name c =
    sym (list_any_at (is_named c.args.name.now) (header_bytes c.args.buf.now) c.args.headers.now c.loop-header.header-index _ c.loop-header-test.true (sym c.if-has_name.ensures))
