use Rattle.std.proofs.Common.{ℕ, List, Option, None, drop}
use Rattle.std.specs.BTreeMap.{get}
use Rattle.values.specs.Names.{uid_cmp, text_cmp}
use Rattle.schema.specs.inner.Numbering.{AddsNames}
use Rattle.schema.proofs.type_numbers.numbers_by_name.Given as goal

-- where those that are left are added too, all are
abbrev pub invariant-loop-uid : goal.invariant-loop-uid
invariant-loop-uid l = (last : List ℕ → Option ℕ) → AddsNames (get uid_cmp l.numbers) (drop l.uid-index l.uids) (get text_cmp l.named) last
    → AddsNames (get uid_cmp l.numbers) l.uids (λ n. None) last
