use Rattle.std.proofs.Common.{ℕ, ◌≤◌, List, drop, map, inl, sym, ap, ◌∙◌, arith, length-drop}
use Rattle.httparse.specs.Spans.{header_bytes}
use Rattle.http_streams.specs.Request.{framing}
use Rattle.http_streams.specs.declared.TheConstants.{MAX_BODY}
use Rattle.http_streams.proofs.CutLemmas.{admitted, head_fits, framing_is, whole}
use Rattle.http_streams.specs.RequestLaws.{size_fits}
use Rattle.http_streams.proofs.OneRequest.{cut_off_below}
use Rattle.http_streams.proofs.cut.cut_body.Goals as goal

pub overflow_sub-left : goal.overflow_sub-left
overflow_sub-left c =
    let found = c.requires.complete in
    omega (arith, head_fits _ _ c.requires.seen _ _ found.0 c.requires.within found.1)

pub returns-in-Refused : goal.returns-in-Refused
returns-in-Refused c =
    let found = c.requires.complete in
    inl (record {
      head = found.0;
      rest = drop c.args.head.now.len c.args.buf.now;
      admits = admitted _ _ c.requires.seen _ _ found.0 c.requires.within found.1 (omega (arith, c.requires.few, c.requires.count));
      framed = sym (framing_is _ _ c.requires.seen _ _ found.0 c.requires.within found.1 c.requires.count) ∙ ap (λ (m : List ℕ). framing m (map (header_bytes c.args.seen.now) c.args.headers.now)) (sym c.of.ensures) ∙ sym c.in-Refused.ensures;
    })

pub overflow_add-result : goal.overflow_add-result
overflow_add-result c =
    let found = c.requires.complete in
    let fits : c.in-Body.size ≤ MAX_BODY = size_fits _ found.0
    (sym (framing_is _ _ c.requires.seen _ _ found.0 c.requires.within found.1 c.requires.count) ∙ ap (λ (m : List ℕ). framing m (map (header_bytes c.args.seen.now) c.args.headers.now)) (sym c.of.ensures) ∙ sym c.in-Body.ensures) in
    omega (arith, fits, head_fits _ _ c.requires.seen _ _ found.0 c.requires.within found.1)

pub returns-then-is_cut_off : goal.returns-then-is_cut_off
returns-then-is_cut_off c =
    let found = c.requires.complete in
    cut_off_below _ (drop c.args.head.now.len c.args.buf.now) found.0 c.in-Body.size _
    (admitted _ _ c.requires.seen _ _ found.0 c.requires.within found.1 (omega (arith, c.requires.few, c.requires.count)))
    (sym (framing_is _ _ c.requires.seen _ _ found.0 c.requires.within found.1 c.requires.count) ∙ ap (λ (m : List ℕ). framing m (map (header_bytes c.args.seen.now) c.args.headers.now)) (sym c.of.ensures) ∙ sym c.in-Body.ensures)
    (omega (arith, length-drop c.args.head.now.len c.args.buf.now, c.is_cut_off.ensures.cut c.if-is_cut_off.true))
    (omega (arith, found.1.len))

pub returns-else-is_cut_off : goal.returns-else-is_cut_off
returns-else-is_cut_off c =
    let found = c.requires.complete in
    whole _ _ c.requires.seen _ _ found.0 c.requires.within found.1 c.in-Body.size _ c.requires.count
    (omega (arith, c.requires.few, c.requires.count)) (ap (λ (m : List ℕ). framing m (map (header_bytes c.args.seen.now) c.args.headers.now)) (sym c.of.ensures) ∙ sym c.in-Body.ensures) (c.is_cut_off.ensures.whole c.if-is_cut_off.false) c.closes.ensures
