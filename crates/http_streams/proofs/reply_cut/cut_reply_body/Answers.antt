use Rattle.std.proofs.Common.{◌≤◌, drop, inl, inr, sym, ◌∙◌, arith, length-drop}
use Rattle.http_streams.proofs.ReplyLemmas.{admitted, head_fits, length_is, whole}
use Rattle.http_streams.specs.declared.TheConstants.{MAX_REPLY}
use Rattle.http_streams.proofs.OneReply.{cut_off_below, size_fits}
use Rattle.http_streams.proofs.reply_cut.cut_reply_body.Goals as goal

pub overflow_sub-left : goal.overflow_sub-left
overflow_sub-left c =
    let found = c.requires.complete in
    omega (arith, head_fits _ _ c.requires.seen _ _ found.0 c.requires.within found.1)

pub returns-in-NoNumber : goal.returns-in-NoNumber
returns-in-NoNumber c =
    let found = c.requires.complete in
    inl (record {
      head = found.0;
      rest = drop c.args.head.now.len c.args.buf.now;
      admits = admitted _ _ c.requires.seen _ _ found.0 c.requires.within found.1 (omega (arith, c.requires.few, c.requires.count));
      framed = inl (sym (length_is _ _ c.requires.seen _ _ found.0 c.requires.within found.1 c.requires.count) ∙ sym c.in-NoNumber.ensures);
    })

pub returns-in-TooLong : goal.returns-in-TooLong
returns-in-TooLong c =
    let found = c.requires.complete in
    inl (record {
      head = found.0;
      rest = drop c.args.head.now.len c.args.buf.now;
      admits = admitted _ _ c.requires.seen _ _ found.0 c.requires.within found.1 (omega (arith, c.requires.few, c.requires.count));
      framed = inr (sym (length_is _ _ c.requires.seen _ _ found.0 c.requires.within found.1 c.requires.count) ∙ sym c.in-TooLong.ensures);
    })

pub overflow_add-result : goal.overflow_add-result
overflow_add-result c =
    let found = c.requires.complete in
    let fits : c.in-Size.size ≤ MAX_REPLY = size_fits _ found.0
    (sym (length_is _ _ c.requires.seen _ _ found.0 c.requires.within found.1 c.requires.count) ∙ sym c.in-Size.ensures) in
    omega (arith, fits, head_fits _ _ c.requires.seen _ _ found.0 c.requires.within found.1)

pub returns-in-Size : goal.returns-in-Size
returns-in-Size c =
    let found = c.requires.complete in
    cut_off_below _ (drop c.args.head.now.len c.args.buf.now) found.0 c.in-Size.size _
    (admitted _ _ c.requires.seen _ _ found.0 c.requires.within found.1 (omega (arith, c.requires.few, c.requires.count)))
    (sym (length_is _ _ c.requires.seen _ _ found.0 c.requires.within found.1 c.requires.count) ∙ sym c.in-Size.ensures)
    (omega (arith, length-drop c.args.head.now.len c.args.buf.now, c.is_cut_off.ensures.cut c.if-is_cut_off.true))
    (omega (arith, found.1.len))

pub returns-in-Size-2 : goal.returns-in-Size-2
returns-in-Size-2 c =
    let found = c.requires.complete in
    whole _ _ c.requires.seen _ _ found.0 c.requires.within found.1 c.in-Size.size c.requires.count
    (omega (arith, c.requires.few, c.requires.count)) (sym c.in-Size.ensures) (c.is_cut_off.ensures.whole c.if-is_cut_off.false)
