use Rattle.std.proofs.Common.{sym, arith}
use Rattle.httparse.specs.Spans.{header_bytes}
use Rattle.http_streams.specs.Fields.{is_close}
use Rattle.http_streams.proofs.CutLemmas.{list_any_at}
use Rattle.http_streams.proofs.cut.closes.Goals as goal

pub returns-then-asks_to_close : goal.returns-then-asks_to_close
returns-then-asks_to_close c =
    let any = list_any_at is_close (header_bytes c.args.buf.now) c.args.headers.now c.loop-header.header-index _ c.loop-header-test.true (sym c.if-asks_to_close.ensures) in
    grind (arith, any)
