use Rattle.std.proofs.Common.{◌≡◌, ◌++◌, ap, ◌∙◌, drop, [], List, ℕ, true, append-nil, arith}
use Rattle.std.proofs.lemmas.List.{drop_all}
use Rattle.http_streams.specs.ReplyText.{error_line, reply_text}
use Rattle.http_streams.proofs.reply.put_refusal.Goals as goal

pub returns-clause-text : goal.returns-clause-text
returns-clause-text c =
    let none : drop 256 c.args.room.now ≡ [] = drop_all 256 c.args.room.now (omega (arith, c.requires.fits)) in
    c.put_head.ensures.text
    ∙ ap (reply_text true c.args.status)
    (c.put_error-body.ensures.text ∙ ap (λ (t : List ℕ). error_line c.as_u16.result ++ t) none ∙ append-nil _ ∙ ap error_line c.as_u16.ensures.value)
