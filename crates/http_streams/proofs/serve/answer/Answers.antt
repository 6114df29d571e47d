use Rattle.std.proofs.Common.{◌≡◌, ◌≤◌, ◌++◌, ◌-◌, ℕ, Bool, List, length, take, drop, sym, ap, ◌∙◌, subst, ◌<◌, arith}
use Rattle.std.proofs.lemmas.List.{drop_at, length-take-le, take_rest}
use Rattle.http_streams.specs.ReplyText.{reply_text}
use Rattle.http.specs.declared.status.StatusCode.{StatusCode}
use Rattle.std.specs.Io.KnownBytes.{Appends}
use Rattle.http_streams.specs.Logs.{cuts, notes}
use Rattle.http_streams.proofs.LogLemmas.{broken_off, reply_some}
use Rattle.http_streams.proofs.StreamLemmas.{exchanged}
use Rattle.http_streams.proofs.serve.answer.Goals as goal

short : (now old : List ℕ) (n : ℕ) → now ≡ take n old → n ≤ length old → length now ≡ n
short now old n is fits = ap length is ∙ length-take-le n old fits

-- the rest of a text from its start on, where the text before its head was put has a reply behind its room
sent : (all now old reply : List ℕ) (start room : ℕ) (last : Bool) (status : StatusCode) → all ≡ now
    → drop start now ≡ reply_text last status (drop room (old ++ reply)) → length old ≡ room
    → take (length all - start) (drop start all) ≡ reply_text last status reply
sent all now old reply start room last status same head len =
    take_rest all start ∙ ap (drop start) same ∙ head ∙ ap (reply_text last status) (drop_at old reply room len)

pub returns-in-Ok-clause-ok : goal.returns-in-Ok-clause-ok
returns-in-Ok-clause-ok g c =
    let said = c.call-status.ensures.reply in
    let head = c.finish-start.ensures.text ∙ ap (λ (t : List ℕ). reply_text c.args.parts.now.closes c.call-status.result (drop 160 t)) said.1 in
    let text = sent _ _ _ said.0 c.finish-start.result 160 _ _ c.deref.ensures.value head (short _ _ 160 c.truncate.ensures.items (omega (arith, c.requires.head, c.args.text.now.ok.0))) in
    let line = subst (Appends (g.L.Sink.holds c.args.log.now) (g.L.Sink.holds c.send.new.log)) c.as_slice.ensures.value c.in-Ok.ensures.ok.0 in (
      _,
      c.in-Ok.ensures.ok.1,
      exchanged g.S.Answers.answers c.args.bytes.now c.args.parts.now _ _ c.call-status.result said.0 _ c.requires.whole
          c.of-method.ensures c.of-target.ensures said.2 text,
      exchanged (notes g.S.Service.lines g.L.Sink.holds) c.args.bytes.now c.args.parts.now _ _ c.call-status.result said.0 _ c.requires.whole
          c.of-method.ensures c.of-target.ensures (_, said.3, line) text,
    )

pub returns-in-Err-clause-err : goal.returns-in-Err-clause-err
returns-in-Err-clause-err g c =
    let said = c.call-status.ensures.reply in
    let head = c.finish-start.ensures.text ∙ ap (λ (t : List ℕ). reply_text c.args.parts.now.closes c.call-status.result (drop 160 t)) said.1 in
    let text = sent _ _ _ said.0 c.finish-start.result 160 _ _ c.deref.ensures.value head (short _ _ 160 c.truncate.ensures.items (omega (arith, c.requires.head, c.args.text.now.ok.0))) in
    let some = subst (λ (t : List ℕ). 0 < length t) (sym text) (reply_some c.args.parts.now.closes c.call-status.result said.0) in
    let lines = subst (g.S.Service.lines _ _ _ c.call-status.result said.0) (sym c.as_slice.ensures.value) said.3 in
    broken_off g.S.Answers.answers g.S.Service.lines g.S.Service.refusal_line g.L.Sink.holds g.W.Sink.holds c.in-Err.broken _ _ _ _ _ _ _ _ _ _ c.args.parts.now.closes some
    (exchanged g.S.Answers.answers c.args.bytes.now c.args.parts.now _ _ c.call-status.result said.0 _ c.requires.whole
    c.of-method.ensures c.of-target.ensures said.2 text)
    (λ took. exchanged (notes g.S.Service.lines g.L.Sink.holds) c.args.bytes.now c.args.parts.now _ _ c.call-status.result said.0 _ c.requires.whole
    c.of-method.ensures c.of-target.ensures (_, lines, took) text)
    (λ took. exchanged (cuts g.S.Service.lines g.L.Sink.holds) c.args.bytes.now c.args.parts.now _ _ c.call-status.result said.0 _ c.requires.whole
    c.of-method.ensures c.of-target.ensures (_, lines, took) text)
    c.in-Err.ensures.err
