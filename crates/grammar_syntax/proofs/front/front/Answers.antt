use Rattle.std.proofs.Common.{◌≡◌, sym, ◌∙◌, ap, take, arith}
use Rattle.plain.specs.Words.{is_word_byte, is_digit, run}
use Rattle.grammar_syntax.specs.inner.Tokenizing.{mark_of}
use Rattle.grammar_syntax.proofs.FirstByte.{class_of_other}
use Rattle.grammar_syntax.proofs.FrontTells.{word_at, word_here, number_at, mark_at}
use Rattle.grammar_syntax.proofs.Ends.{boundary}
use Rattle.grammar_syntax.proofs.front.front.Goals as goal

pub range-requires-clause-end_boundary : goal.range-requires-clause-end_boundary
range-requires-clause-end_boundary c =
    let same = c.as_bytes-bytes.ensures.value in
    let found = word_at c.args.text.now _ _ (sym same ∙ c.in_ok-first.ensures.cases.0) (sym c.if-letter.ensures) in
    boundary _ c.args.text.now found.w found.rest c.word_len-len.result c.utf8.text found.longest.is found.cut
    (found.len ∙ sym (c.word_len-len.ensures.is ∙ ap (run is_word_byte) same))

pub returns-then-letter : goal.returns-then-letter
returns-then-letter c =
    let same = c.as_bytes-bytes.ensures.value in
    let cut : c.range.result.now ≡ take c.word_len-len.result c.args.text.now = grind (arith, c.range.ensures.value) in
    word_here c.args.text.now _ _ _ _ _ (sym same ∙ c.in_ok-first.ensures.cases.0) (sym c.if-letter.ensures)
    (c.word_len-len.ensures.is ∙ ap (run is_word_byte) same) cut c.word_kind.ensures

pub returns-then-digit : goal.returns-then-digit
returns-then-digit c =
    let same = c.as_bytes-bytes.ensures.value in
    number_at c.args.text.now _ _ _ (sym same ∙ c.in_ok-first.ensures.cases.0) (sym c.if-digit.ensures) (c.digits_len.ensures.is ∙ ap (run is_digit) same)

pub returns : goal.returns
returns c =
    let same = c.as_bytes-bytes.ensures.value in
    mark_at c.args.text.now _ _ _ (sym same ∙ c.in_ok-first.ensures.cases.0)
    (class_of_other _ (sym c.if-letter.ensures) (sym c.if-digit.ensures) c.if-first-eq34.false c.if-first-eq63.false) (c.mark.ensures ∙ ap mark_of same)
