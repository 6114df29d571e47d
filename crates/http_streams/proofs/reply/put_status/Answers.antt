use Rattle.std.proofs.Common.{◌≡◌, ℕ, ◌<◌, ◌≤◌, List, length, decimal, ap, ◌∙◌, subst, arith}
use Rattle.std.proofs.lemmas.Fmt.{length-decimal-le}
use Rattle.http_streams.specs.ReplyText.{phrase}
use Rattle.http_streams.proofs.PhraseLemmas.{phrase_short}
use Rattle.http_streams.proofs.reply.put_status.Goals as goal

words_short : (status code : ℕ) (words text : List ℕ) → code ≡ status → code < 1000 → words ≡ text → text ≡ phrase status → length words ≤ 32
words_short status code words text same valid is read =
    omega (arith, ap length (is ∙ read), phrase_short status (subst (λ (n : ℕ). n < 1000) same valid))

digits_short : (code number : ℕ) → number ≡ code → code < 1000 → length (decimal number) ≤ 3
digits_short code number is valid = length-decimal-le 3 number (omega arith) (omega (arith, is, valid)) (omega (arith, is, valid))

pub put_piece-words-requires-clause-fits : goal.put_piece-words-requires-clause-fits
put_piece-words-requires-clause-fits c =
    let short = words_short _ _ _ _ c.as_u16-code.ensures.value c.as_u16-code.ensures.valid.1 c.as_bytes.ensures.value c.phrase.ensures in
    omega (arith, c.requires.fits, short)

pub put_piece-blank-requires-clause-fits : goal.put_piece-blank-requires-clause-fits
put_piece-blank-requires-clause-fits c =
    let short = words_short _ _ _ _ c.as_u16-code.ensures.value c.as_u16-code.ensures.valid.1 c.as_bytes.ensures.value c.phrase.ensures in
    omega (arith, c.requires.fits, c.put_piece-words.ensures.start, short)

pub put_number-digits-requires-clause-fits : goal.put_number-digits-requires-clause-fits
put_number-digits-requires-clause-fits c =
    let short = words_short _ _ _ _ c.as_u16-code.ensures.value c.as_u16-code.ensures.valid.1 c.as_bytes.ensures.value c.phrase.ensures in
    omega (arith, c.requires.fits, c.put_piece-words.ensures.start, c.put_piece-blank.ensures.start, short)

pub put_piece-requires-clause-fits : goal.put_piece-requires-clause-fits
put_piece-requires-clause-fits c =
    let short = words_short _ _ _ _ c.as_u16-code.ensures.value c.as_u16-code.ensures.valid.1 c.as_bytes.ensures.value c.phrase.ensures in
    let three = digits_short _ _ c.from.ensures c.as_u16-code.ensures.valid.1 in
    omega (arith, c.requires.fits, c.put_piece-words.ensures.start, c.put_piece-blank.ensures.start, c.put_number-digits.ensures.start, short, three)
