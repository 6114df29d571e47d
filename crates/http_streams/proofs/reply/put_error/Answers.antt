use Rattle.std.proofs.Common.{◌≡◌, ◌++◌, drop, List, ℕ, decimal, append_assoc, rules, ap, ◌∙◌, sym}
use Rattle.std.specs.Prelude.{codes}
use Rattle.http_streams.specs.ReplyText.{error_line}
use Rattle.http_streams.proofs.reply.put_error.Goals as goal

joined : (front number back rest : List ℕ) {a b c : List ℕ} → a ≡ front ++ b → b ≡ number ++ c → c ≡ back ++ rest
    → a ≡ (front ++ number ++ back) ++ rest
joined front number back rest x y z =
    x ∙ ap (λ (t : List ℕ). front ++ t) (y ∙ ap (λ (t : List ℕ). number ++ t) z)
    ∙ sym (append_assoc front number (back ++ rest)) ∙ sym (append_assoc (front ++ number) back rest)

pub returns-clause-text : goal.returns-clause-text
unfolding error_line
returns-clause-text c =
    let same : c.from.result ≡ c.args.code = search rules in
    joined (codes "{\"error\":{\"code\":") (decimal c.args.code) (codes ",\"place\":null,\"within\":null}}") (drop c.args.end c.args.room.now)
    c.put_piece.ensures.text
    (c.put_number-digits.ensures.text ∙ ap (λ (n : ℕ). decimal n ++ drop c.put_piece-nulls.result c.put_piece-nulls.new.room) same)
    c.put_piece-nulls.ensures.text
