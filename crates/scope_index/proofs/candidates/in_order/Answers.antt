use Rattle.std.proofs.Common.{rules}
use Rattle.std.proofs.lemmas.Fn.{dedup_same}
use Rattle.scope_index.proofs.Standing.{one_id, same_in_order, ascending_once}
use Rattle.scope_index.proofs.candidates.in_order.Goals as goal

pub returns-clause-same : goal.returns-clause-same
returns-clause-same c =
    same_in_order c.args.found.items c.sort_by_id.new.policies.items c.dedup_by_key.new.self.items c.requires
    c.sort_by_id.ensures.permutation
    (dedup_same _ one_id _ (λ x y b f' x' y' k. search rules) _ _ c.dedup_by_key.ensures.filtered)

pub returns-clause-ascending : goal.returns-clause-ascending
returns-clause-ascending c =
    ascending_once c.sort_by_id.new.policies.items c.dedup_by_key.new.self.items c.sort_by_id.ensures.sorted
    (dedup_same _ one_id _ (λ x y b f' x' y' k. search rules) _ _ c.dedup_by_key.ensures.filtered)
