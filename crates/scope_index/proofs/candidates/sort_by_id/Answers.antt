use Rattle.std.proofs.Common.{rules}
use Rattle.std.proofs.lemmas.List.Sorted.{answers_always}
use Rattle.scope_index.proofs.candidates.sort_by_id.Goals as goal

pub returns-in-Ok-clause-sorted : goal.returns-in-Ok-clause-sorted
returns-in-Ok-clause-sorted c = c.in-Ok.ensures.sorted (λ p. p.0) (answers_always _ _ _ (λ f a r f' k. search rules))

pub returns-in-Err-clause-sorted : goal.returns-in-Err-clause-sorted
returns-in-Err-clause-sorted c =
    c.sort_unstable_by_key.ensures.sorted (λ p. p.0) (answers_always _ _ _ (λ f a r f' k. search rules))
