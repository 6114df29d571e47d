use Rattle.std.proofs.Common.{◌≡◌, ◌+◌, ◌*◌, drop, map}
use Rattle.fault_places.specs.TokenCounts.{tree_count, term_count, entry_count, access_tree_count, each_count, total}
use Rattle.fault_places.proofs.behind.+behind.Given as goal

abbrev pub invariant-tokens_after_each-loop-tree : goal.invariant-tokens_after_each-loop-tree
invariant-tokens_after_each-loop-tree l = drop (each_count (map tree_count (drop l.tree-index l.trees))) l.rest ≡ drop (each_count (map tree_count l.trees)) l.tokens

abbrev pub invariant-tokens_after_terms-loop-term : goal.invariant-tokens_after_terms-loop-term
invariant-tokens_after_terms-loop-term l = drop (each_count (map term_count (drop l.term-index l.terms))) l.rest ≡ drop (each_count (map term_count l.terms)) l.tokens

abbrev pub invariant-tokens_after_entries-loop-entry : goal.invariant-tokens_after_entries-loop-entry
invariant-tokens_after_entries-loop-entry l = drop (each_count (map entry_count (drop l.entry-index l.entries))) l.rest ≡ drop (each_count (map entry_count l.entries)) l.tokens

abbrev pub invariant-tokens_after_accesses-loop-access : goal.invariant-tokens_after_accesses-loop-access
invariant-tokens_after_accesses-loop-access l = drop (total (map access_tree_count (drop l.access-index l.accesses))) l.rest ≡ drop (total (map access_tree_count l.accesses)) l.tokens

abbrev pub decreases-tokens_after_tree : goal.decreases-tokens_after_tree
decreases-tokens_after_tree l = 5 * goal.size-tokens_after_tree l + 0

abbrev pub decreases-tokens_after_each : goal.decreases-tokens_after_each
decreases-tokens_after_each l = 5 * goal.size-tokens_after_each l + 1

abbrev pub decreases-tokens_after_terms : goal.decreases-tokens_after_terms
decreases-tokens_after_terms l = 5 * goal.size-tokens_after_terms l + 1

abbrev pub decreases-tokens_after_entries : goal.decreases-tokens_after_entries
decreases-tokens_after_entries l = 5 * goal.size-tokens_after_entries l + 1

abbrev pub decreases-tokens_after_row : goal.decreases-tokens_after_row
decreases-tokens_after_row l = 5 * goal.size-tokens_after_row l + 2

abbrev pub decreases-tokens_after_access : goal.decreases-tokens_after_access
decreases-tokens_after_access l = 5 * goal.size-tokens_after_access l + 3

abbrev pub decreases-tokens_after_accesses : goal.decreases-tokens_after_accesses
decreases-tokens_after_accesses l = 5 * goal.size-tokens_after_accesses l + 4

abbrev pub decreases-tokens_after_operand : goal.decreases-tokens_after_operand
decreases-tokens_after_operand l = 5 * goal.size-tokens_after_operand l + 1

abbrev pub decreases-tokens_after_piece : goal.decreases-tokens_after_piece
decreases-tokens_after_piece l = 5 * goal.size-tokens_after_piece l + 2
