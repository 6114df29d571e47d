use Rattle.std.proofs.Common.{sym, arith}
use Rattle.std.proofs.lemmas.List.{take_all, length-take-le}
use Rattle.http_streams.specs.declared.TheConstants.{MAX_HEAD}
use Rattle.http_streams.proofs.limits.first_bytes.Goals as goal

pub slice_bounds-result-end : goal.slice_bounds-result-end
slice_bounds-result-end c = sym (length-take-le MAX_HEAD c.args.buf.now (omega (arith, c.if-buf-gt-MAX_HEAD.true)))

pub returns-else-buf-gt-MAX_HEAD : goal.returns-else-buf-gt-MAX_HEAD
returns-else-buf-gt-MAX_HEAD c = sym (take_all MAX_HEAD c.args.buf.now c.if-buf-gt-MAX_HEAD.false)
