use Rattle.std.proofs.Common.{◌≢◌, ◌≤◌, Err, inl, inr, arith, rules, ap, length, subst, ◌∙◌}
use Rattle.std.proofs.lemmas.List.{length-take, take_all}
use Rattle.httparse.specs.declared.Error.TheVariants.{TooManyHeaders}
use Rattle.http_streams.specs.declared.TheConstants.{MAX_HEAD}
use Rattle.httparse.specs.Grammar.{HasNoResponse, NeverHasResponse, MayBecomeResponse}
use Rattle.httparse.specs.Spans.{IsResponseWithin, IsResponseOf}
use Rattle.http_streams.proofs.ReplyLemmas.{none_admitted, never_more, never_none, not_exceeded, too_many}
use Rattle.http_streams.proofs.OneReply.{part_below}
use Rattle.http_streams.proofs.reply_cut.cut_reply.Goals as goal

pub returns-then-has_too_many : goal.returns-then-has_too_many
returns-then-has_too_many c =
    let found : IsResponseOf c.first_bytes-seen.result.now c.parse_response.new.headers c.in-Ok-Complete.head = search rules in
    let within : IsResponseWithin c.first_bytes-seen.result.now c.parse_response.new.headers c.in-Ok-Complete.head = search rules in
    too_many _ _ c.first_bytes-seen.ensures _ _ found.0 within found.1 (c.has_too_many.ensures.over c.if-has_too_many.true)

pub returns-in-Ok-Partial-2 : goal.returns-in-Ok-Partial-2
returns-in-Ok-Partial-2 c =
    let none : HasNoResponse c.first_bytes-seen.result.now = search rules in
    inr (none_admitted _ (subst HasNoResponse c.first_bytes-seen.ensures none), inl (inr c.if-buf-le-MAX_HEAD.false))

pub returns-in-Err : goal.returns-in-Err
returns-in-Err c =
    let seen = c.first_bytes-seen.result.now in
    let short : length seen ≤ length c.args.room.now = omega (arith, c.requires, ap length c.first_bytes-seen.ensures, length-take MAX_HEAD c.args.buf.now) in
    let other : c.in-Err.field-0 ≢ TooManyHeaders = λ is. not_exceeded _ seen short (c.in-Err.ensures.too_many (ap Err is)) in
    let never = never_more c.args.buf.now MAX_HEAD (subst NeverHasResponse c.first_bytes-seen.ensures (c.in-Err.ensures.invalid other)) in
    inr (never_none _ never, inr never)

pub returns-in-Ok-Partial : goal.returns-in-Ok-Partial
returns-in-Ok-Partial c =
    let seen = c.first_bytes-seen.result.now in
    let whole = c.first_bytes-seen.ensures ∙ take_all MAX_HEAD c.args.buf.now c.if-buf-le-MAX_HEAD.true in
    let none : HasNoResponse seen = search rules in
    let more : MayBecomeResponse seen = search rules in
    part_below _ (record {
      none = subst HasNoResponse whole none;
      short = c.if-buf-le-MAX_HEAD.true;
      open_still = subst MayBecomeResponse whole more;
    })
