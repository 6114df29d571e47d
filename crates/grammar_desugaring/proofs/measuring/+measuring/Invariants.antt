use Rattle.std.proofs.Common.{◌≡◌, ◌+◌, ◌*◌, max, drop}
use Rattle.std.specs.List.{fold}
use Rattle.grammar_syntax.proofs.tree.ExprTree.TheLaws.{the_size}
use Rattle.grammar_desugaring.specs.TreeMeasures.{measured}
use Rattle.grammar_desugaring.specs.Sums.{nothing, side_by_side, measured_all, measured_chain, measured_term, measured_entry, measured_access}
use Rattle.grammar_desugaring.proofs.measuring.+measuring.Given as goal

abbrev pub invariant-measure_all-loop-tree : goal.invariant-measure_all-loop-tree
invariant-measure_all-loop-tree l = fold (λ j x. side_by_side j (measured l.text x)) l.row (drop l.tree-index l.trees) ≡ measured_all l.text l.trees

abbrev pub invariant-measure_entries-loop-entry : goal.invariant-measure_entries-loop-entry
invariant-measure_entries-loop-entry l = fold (measured_entry l.text) l.row (drop l.entry-index l.entries) ≡ fold (measured_entry l.text) nothing l.entries

abbrev pub invariant-measure_chain-loop-tree : goal.invariant-measure_chain-loop-tree
invariant-measure_chain-loop-tree l = measured_chain l.text l.left (drop l.tree-index l.trees) ≡ measured_chain l.text (measured l.text l.first) l.trees

abbrev pub invariant-measure_terms-loop-term : goal.invariant-measure_terms-loop-term
invariant-measure_terms-loop-term l = fold (measured_term l.text) l.left (drop l.term-index l.terms) ≡ fold (measured_term l.text) (measured l.text l.first) l.terms

abbrev pub invariant-measure_accesses-loop-access : goal.invariant-measure_accesses-loop-access
invariant-measure_accesses-loop-access l = fold (measured_access l.text) l.left (drop l.access-index l.accesses) ≡ fold (measured_access l.text) (measured l.text l.receiver) l.accesses

-- An access is as deep as the deepest of its arguments: so the helpers that go down it stand above those that go over the arguments.
abbrev pub decreases-measure_tree : goal.decreases-measure_tree
decreases-measure_tree l = 4 * goal.size-measure_tree l + 0

abbrev pub decreases-measure_behind_minus : goal.decreases-measure_behind_minus
decreases-measure_behind_minus l = 4 * goal.size-measure_behind_minus l + 1

abbrev pub decreases-measure_all : goal.decreases-measure_all
decreases-measure_all l = 4 * goal.size-measure_all l + 1

abbrev pub decreases-measure_entries : goal.decreases-measure_entries
decreases-measure_entries l = 4 * goal.size-measure_entries l + 1

abbrev pub decreases-measure_chain : goal.decreases-measure_chain
decreases-measure_chain l = 4 * max (goal.size-measure_chain l) (the_size l.first.now) + 1

abbrev pub decreases-measure_terms : goal.decreases-measure_terms
decreases-measure_terms l = 4 * max (goal.size-measure_terms l) (the_size l.first.now) + 1

abbrev pub decreases-measure_access : goal.decreases-measure_access
decreases-measure_access l = 4 * goal.size-measure_access l + 2

abbrev pub decreases-measure_accesses : goal.decreases-measure_accesses
decreases-measure_accesses l = 4 * max (goal.size-measure_accesses l) (the_size l.receiver.now) + 3

abbrev pub decreases-measure_both : goal.decreases-measure_both
decreases-measure_both l = 4 * max (goal.size-measure_both l) (the_size l.right.now) + 1
