use Rattle.std.proofs.Common.{◌≡◌, ◌+◌, ◌*◌, max, drop, take, map}
use Rattle.std.specs.List.{fold}
use Rattle.grammar_syntax.proofs.tree.ExprTree.TheLaws.{the_size}
use Rattle.grammar_desugaring.specs.Core.{core_of, field, in_entry, in_term, in_access, added, accessed, joined_by}
use Rattle.grammar_desugaring.proofs.build.+build.Given as goal

abbrev pub invariant-build_all-loop-tree : goal.invariant-build_all-loop-tree
invariant-build_all-loop-tree l = l.row.items ≡ map (core_of l.text) (take l.tree-index l.trees)

abbrev pub invariant-build_entries-loop-entry : goal.invariant-build_entries-loop-entry
invariant-build_entries-loop-entry l = l.row.items ≡ map (field l.text) (map (in_entry (core_of l.text)) (take l.entry-index l.entries))

abbrev pub invariant-build_chain-loop-tree : goal.invariant-build_chain-loop-tree
invariant-build_chain-loop-tree l = fold (joined_by l.chain) l.left (map (core_of l.text) (drop l.tree-index l.trees)) ≡ fold (joined_by l.chain) (core_of l.text l.first) (map (core_of l.text) l.trees)

abbrev pub invariant-build_terms-loop-term : goal.invariant-build_terms-loop-term
invariant-build_terms-loop-term l = fold added l.left (map (in_term (core_of l.text)) (drop l.term-index l.terms)) ≡ fold added (core_of l.text l.first) (map (in_term (core_of l.text)) l.terms)

abbrev pub invariant-build_accesses-loop-access : goal.invariant-build_accesses-loop-access
invariant-build_accesses-loop-access l =
    fold (accessed l.text) l.left (map (in_access (core_of l.text)) (drop l.access-index l.accesses))
    ≡ fold (accessed l.text) (core_of l.text l.receiver) (map (in_access (core_of l.text)) l.accesses)

-- An access is as deep as the deepest of its arguments: so the helpers that go down it stand above those that go over the arguments.
abbrev pub decreases-build_tree : goal.decreases-build_tree
decreases-build_tree l = 4 * goal.size-build_tree l + 0

abbrev pub decreases-build_behind_minus : goal.decreases-build_behind_minus
decreases-build_behind_minus l = 4 * goal.size-build_behind_minus l + 1

abbrev pub decreases-build_all : goal.decreases-build_all
decreases-build_all l = 4 * goal.size-build_all l + 1

abbrev pub decreases-build_entries : goal.decreases-build_entries
decreases-build_entries l = 4 * goal.size-build_entries l + 1

abbrev pub decreases-build_chain : goal.decreases-build_chain
decreases-build_chain l = 4 * max (goal.size-build_chain l) (the_size l.first.now) + 1

abbrev pub decreases-build_terms : goal.decreases-build_terms
decreases-build_terms l = 4 * max (goal.size-build_terms l) (the_size l.first.now) + 1

abbrev pub decreases-build_access : goal.decreases-build_access
decreases-build_access l = 4 * goal.size-build_access l + 2

abbrev pub decreases-build_accesses : goal.decreases-build_accesses
decreases-build_accesses l = 4 * max (goal.size-build_accesses l) (the_size l.receiver.now) + 3

abbrev pub decreases-build_both : goal.decreases-build_both
decreases-build_both l = 4 * max (goal.size-build_both l) (the_size l.right.now) + 1
