use Rattle.std.proofs.Common.{◌≡◌, ◌==◌, drop}
use Rattle.std.specs.List.{find}
use Rattle.explanations.proofs.table.row_with_code.Given as goal

abbrev pub invariant-loop-words : goal.invariant-loop-words
invariant-loop-words l =
    find (λ words. words.code == l.code) l.rows ≡ find (λ words. words.code == l.code) (drop l.words-index l.rows)
