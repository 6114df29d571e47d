use Rattle.std.proofs.Common.{◌≡◌, ℕ, ◌∙◌, sym, arith, lit<, Ok, Err, length, get_or, ◌≢◌, ap, inl, inr, rules}
use Rattle.std.specs.Str.Parse.{AllDigits, digits_value}
use Rattle.std.specs.Fmt.{decimal}
use Rattle.std.proofs.lemmas.Bool.{cases_lt}
use Rattle.std.proofs.lemmas.Str.Parse.{IsNumeralModel, numerals_by_value, tells_digits, parse_plain}
use Rattle.std.proofs.lemmas.Str.Pattern.{starts_char}
use Rattle.std.proofs.lemmas.Fmt.{decimal-digits_value, parse-decimal}
use Rattle.extensions.proofs.AddressTexts.{first_of_decimal, not_padded}
use Rattle.extensions.proofs.address_texts.decimal_of_text.Goals as goal

pub returns-then-starts_with-clause-none : goal.returns-then-starts_with-clause-none
returns-then-starts_with-clause-none c = λ _ n small e.
    first_of_decimal c.args.text.now n 43 small e ((starts_char 43 c.args.text.now c.starts_with.result c.starts_with.ensures.cases (lit< tt) (lit< tt)).0 c.if-starts_with.true) (lit< tt)

pub returns-then-is_padded-clause-none : goal.returns-then-is_padded-clause-none
returns-then-is_padded-clause-none c = λ _ n small e.
    let both = c.is_padded.ensures.0 (search rules) in
    not_padded c.args.text.now n small e both.0 both.1

own : IsNumeralModel (AllDigits 10) (digits_value 10)
own = numerals_by_value (AllDigits 10) tells_digits

pub returns-in-Ok-clause-some : goal.returns-in-Ok-clause-some
returns-in-Ok-clause-some c =
    let no_plus : get_or c.args.text.now 0 0 ≢ 43 = λ e.
    let yes = (starts_char 43 c.args.text.now c.starts_with.result c.starts_with.ensures.cases (lit< tt) (lit< tt)).1 e in let no = c.if-starts_with.false in absurd (cc) in
    let read = parse_plain own {E = ℕ} 8 c.args.text.now (Ok c.in-Ok.n) c.in-Ok.ensures.value.0 no_plus in
    let single : get_or c.args.text.now 0 0 ≡ 48 → length c.args.text.now ≡ 1 = λ zero. elim (cases_lt 1 (length c.args.text.now)) [
      | inl long ↦ let yes = c.is_padded.ensures.1 (zero, long) in let no = c.if-is_padded.false in absurd (search rules)
      | inr short ↦ let some = read.0.1 in omega arith
    ] in
    sym (ap decimal read.1 ∙ decimal-digits_value own c.args.text.now read.0.0 read.0.1 single (let below = read.0.2 in omega arith))

pub returns-in-Err-clause-none : goal.returns-in-Err-clause-none
returns-in-Err-clause-none c = λ _ n small e.
    let read = parse-decimal 8 n c.args.text.now (Err c.in-Err.field-0) small (omega arith) e c.in-Err.ensures.value.0 in absurd (cc)
