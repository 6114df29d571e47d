use Rattle.std.proofs.Common.{◌≡◌, ◌++◌, map, string_bytes}
use Rattle.policy_grammar.specs.CoreOf.{AreCoresOf}
use Rattle.policy_grammar.proofs.names.named_of.Given as goal

-- the names up to here and those that are left, and the policies of the trees that were taken
abbrev pub invariant-loop-tree : goal.invariant-loop-tree
invariant-loop-tree l = record {
  can_next : (goal.iterator-loop-tree).can_next l.tree-iterator;
  is_finite : (goal.iterator-loop-tree).is_finite l.tree-iterator;
  taken : l.yielded ++ l.tree-iterator.rest.items ≡ l.fn.trees.items;
  named : map (λ p. string_bytes p.0) l.named.items ++ l.rest.items ≡ l.fn.names.items;
  cores : AreCoresOf l.text l.yielded (map (λ p. p.1) l.named.items);
}
