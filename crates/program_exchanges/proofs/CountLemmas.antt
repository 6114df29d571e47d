-- Which lines are counts of updates.
use Rattle.std.proofs.Common.{◌≡◌, ◌∙◌, ℕ, ◌+◌, ◌-◌, ◌<◌, ◌++◌, List, length, take, drop, true, false, codes, sym, ap, arith, length-append}
use Rattle.std.specs.Char.{is_ascii_digit}
use Rattle.std.specs.Cmp.Lexicographic.{pointwise}
use Rattle.std.specs.Prelude.{nat_eq}
use Rattle.std.specs.List.{list_all}
use Rattle.std.proofs.Math.Seq.{drop-append_seam, take-append_seam}
use Rattle.std.proofs.lemmas.List.{take-append-drop}
use Rattle.std.proofs.lemmas.Slice.Eq.{bytes_eq-Decides}
use Rattle.program_exchanges.specs.Counts.{IsTakenLine}

abbrev pub label : List ℕ
label = codes "{\"taken\":"

abbrev pub brace : List ℕ
brace = codes "}"

-- what stands before the brace
length_before : (digits : List ℕ) → length (digits ++ brace) - 1 ≡ length digits
length_before digits = let both : length (digits ++ brace) ≡ length digits + length brace = length-append digits brace in
    ap (λ (n : ℕ). n - 1) both ∙ omega arith

pub before_brace : (digits : List ℕ) → take (length (digits ++ brace) - 1) (digits ++ brace) ≡ digits
before_brace digits = ap (λ (n : ℕ). take n (digits ++ brace)) (length_before digits) ∙ take-append_seam digits brace

pub from_brace : (digits : List ℕ) → drop (length (digits ++ brace) - 1) (digits ++ brace) ≡ brace
from_brace digits = ap (λ (n : ℕ). drop n (digits ++ brace)) (length_before digits) ∙ drop-append_seam digits brace

-- its parts make a line
pub line_of_parts : (line behind digits : List ℕ) → pointwise nat_eq (take 9 line) label ≡ true → behind ≡ drop 9 line
    → pointwise nat_eq (drop (length behind - 1) behind) brace ≡ true → digits ≡ take (length behind - 1) behind
    → 0 < length digits → list_all is_ascii_digit digits ≡ true → IsTakenLine line
line_of_parts line behind digits labelled is closed are some all = record {
  digits = digits;
  some = some;
  are_digits = all;
  is =
      sym (take-append-drop 9 line)
      ∙ ap (λ (t : List ℕ). t ++ drop 9 line) ((bytes_eq-Decides (take 9 line) label).0 labelled)
      ∙ ap (λ (t : List ℕ). label ++ t) (sym is
      ∙ sym (take-append-drop (length behind - 1) behind)
      ∙ ap (λ (t : List ℕ). t ++ drop (length behind - 1) behind) (sym are)
      ∙ ap (λ (t : List ℕ). digits ++ t) ((bytes_eq-Decides (drop (length behind - 1) behind) brace).0 closed));
}

-- without the label it is none
pub no_label : (line : List ℕ) → pointwise nat_eq (take 9 line) label ≡ false → IsTakenLine line → ⊥
no_label line test it =
    let passed : pointwise nat_eq (take 9 line) label ≡ true = ap (λ (s : List ℕ). pointwise nat_eq (take 9 s) label) it.is in absurd cc

behind_label : (line behind : List ℕ) → behind ≡ drop 9 line → (it : IsTakenLine line) → behind ≡ it.digits ++ brace
behind_label line behind is it = is ∙ ap (λ (s : List ℕ). drop 9 s) it.is

-- nor without the brace
pub no_brace : (line behind : List ℕ) → behind ≡ drop 9 line → pointwise nat_eq (drop (length behind - 1) behind) brace ≡ false
    → IsTakenLine line → ⊥
no_brace line behind is test it =
    let passed : pointwise nat_eq (drop (length behind - 1) behind) brace ≡ true =
    ap (λ (s : List ℕ). pointwise nat_eq (drop (length s - 1) s) brace) (behind_label line behind is it)
    ∙ ap (λ (s : List ℕ). pointwise nat_eq s brace) (from_brace it.digits) in absurd cc

-- and what stands between them are its digits
pub digits_are : (line behind digits : List ℕ) → behind ≡ drop 9 line → digits ≡ take (length behind - 1) behind
    → (it : IsTakenLine line) → digits ≡ it.digits
digits_are line behind digits is are it =
    are ∙ ap (λ (s : List ℕ). take (length s - 1) s) (behind_label line behind is it) ∙ before_brace it.digits
