use Rattle.std.proofs.Common.{◌≡◌, length, sym, ap, arith, ◌∙◌}
use Rattle.std.specs.Char.{is_ascii_digit}
use Rattle.std.specs.List.{list_all}
use Rattle.std.proofs.lemmas.Bool.Decides.{nat_tests}
use Rattle.program_exchanges.proofs.CountLemmas.{digits_are, line_of_parts, no_brace, no_label}
use Rattle.program_exchanges.proofs.counts.is_taken_line.Goals as goal

pub returns-in_default : goal.returns-in_default
returns-in_default c = ((λ t. absurd (cc)), (λ it. absurd (no_label c.args.line.now c.in_default.ensures.cases it)))

pub returns-in_default-strip_suffix : goal.returns-in_default-strip_suffix
returns-in_default-strip_suffix c =
    ((λ t. absurd (cc)), (λ it. absurd (no_brace c.args.line.now c.in-Some.behind.now c.in-Some.ensures.cases.1 c.in_default-strip_suffix.ensures.cases it)))

pub returns-then-is_empty : goal.returns-then-is_empty
returns-then-is_empty c = (
  (λ t. absurd (cc)),
  (λ it.
      let same = digits_are c.args.line.now c.in-Some.behind.now c.in-Some-strip_suffix.digits.now c.in-Some.ensures.cases.1 c.in-Some-strip_suffix.ensures.cases.1 it in
      let sizes : length c.in-Some-strip_suffix.digits.now ≡ length it.digits = ap length same in
      let some = it.some in grind (arith, nat_tests)),
)

pub returns : goal.returns
returns c = (
  (λ t.
      line_of_parts c.args.line.now c.in-Some.behind.now c.in-Some-strip_suffix.digits.now c.in-Some.ensures.cases.0 c.in-Some.ensures.cases.1
      c.in-Some-strip_suffix.ensures.cases.0 c.in-Some-strip_suffix.ensures.cases.1 (grind (arith, nat_tests)) (sym c.are_digits.ensures ∙ t)),
  (λ it.
      let same = digits_are c.args.line.now c.in-Some.behind.now c.in-Some-strip_suffix.digits.now c.in-Some.ensures.cases.1 c.in-Some-strip_suffix.ensures.cases.1 it in
      c.are_digits.ensures ∙ ap (list_all is_ascii_digit) same ∙ it.are_digits),
)
