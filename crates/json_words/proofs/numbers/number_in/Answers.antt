use Rattle.std.proofs.Common.{◌≡◌, drop, true, false, sym, ap, ◌∙◌, arith, take_all, length-drop}
use Rattle.fast_float.specs.Text.{scan}
use Rattle.serde_json.specs.Read.{number_from}
use Rattle.json_words.proofs.Numbered.{signed, unsigned}
use Rattle.json_words.proofs.numbers.number_in.Goals as goal

pub returns-then-is_signed : goal.returns-then-is_signed
returns-then-is_signed c =
    let s = c.as_bytes-bytes.result.now in
    let parts : c.scan.result ≡ scan (drop 1 s) =
    c.scan.ensures.parts ∙ ap scan (take_all _ (drop 1 s) (omega (arith, length-drop 1 s))) in
    c.below_zero.ensures ∙ ap (number_from true) parts ∙ signed s _ c.as_bytes-bytes.ensures.value (sym c.if-is_signed.ensures.value)

pub returns-else-is_signed : goal.returns-else-is_signed
returns-else-is_signed c =
    let s = c.as_bytes-bytes.result.now in
    c.from_zero.ensures ∙ ap (number_from false) c.scan-else-is_signed.ensures.parts
    ∙ unsigned s _ c.as_bytes-bytes.ensures.value (sym c.if-is_signed.ensures.value)
