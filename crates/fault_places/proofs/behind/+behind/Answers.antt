use Rattle.std.proofs.Common.{◌≡◌, ℕ, ◌+◌, map, length, refl, sym, ap, ◌∙◌, drop, arith, rules}
use denote.Param.Weighed.{at_most}
use Rattle.grammar_syntax.specs.declared.tree.ExprTree.TheVariants as t
use Rattle.grammar_syntax.specs.declared.tree.ExprTree.TheViews as v
use Rattle.fault_places.specs.TokenCounts.{tree_count, term_count, entry_count, access_tree_count, each_count, total, lone_count, path_count, uid_count}
use Rattle.fault_places.proofs.Dropping.{twice, one_more, counted, turned, length-mapped}
use Rattle.fault_places.proofs.Counts.{count-Uid, count-Call, count-Parentheses, count-Set, count-Record, count-Member, count-prefix, count-chain, count-Sum, count-Compare, count-postfix, count-Is, count-IsIn, count-If}
use Rattle.fault_places.proofs.Opening.{IsLeaf, count-leaf}
use Rattle.fault_places.proofs.behind.+behind.Goals as goal

regroup : (a b : ℕ) → 1 + (a + b) ≡ 1 + a + b
regroup a b = omega arith

regroup_if : (a b d : ℕ) → ((1 + (a + 1)) + (b + 1)) + d ≡ ((1 + a + 1) + b + 1) + d
regroup_if a b d = omega arith

pub tokens_after_tree-returns-in_default : goal.tokens_after_tree-returns-in_default
tokens_after_tree-returns-in_default t' c =
    let leaf : IsLeaf c.args.tree.now = record {
      not-Call = c.in_default.not-Call;
      not-Set = c.in_default.not-Set;
      not-Record = c.in_default.not-Record;
      not-Member = c.in_default.not-Member;
      not-Not = c.in_default.not-Not;
      not-Minus = c.in_default.not-Minus;
      not-Product = c.in_default.not-Product;
      not-Sum = c.in_default.not-Sum;
      not-Compare = c.in_default.not-Compare;
      not-Has = c.in_default.not-Has;
      not-Like = c.in_default.not-Like;
      not-Is = c.in_default.not-Is;
      not-IsIn = c.in_default.not-IsIn;
      not-And = c.in_default.not-And;
      not-Or = c.in_default.not-Or;
      not-If = c.in_default.not-If;
    } in
    c.skip-in_default.ensures ∙ ap (λ k. drop k c.args.tokens.now) (sym (count-leaf c.args.tree.now leaf c.in_default.not-Uid c.in_default.not-Parentheses))

pub tokens_after_tree-returns-in-Uid : goal.tokens_after_tree-returns-in-Uid
tokens_after_tree-returns-in-Uid t' c =
    counted c.args.tree.now (t.Uid c.in-Uid.uid) (uid_count c.in-Uid.uid) c.args.tokens.now c.tokens_after_uid.result.now c.tokens_after_uid.ensures c.in-Uid.is (count-Uid c.in-Uid.uid)

pub tokens_after_tree-returns-in-Call : goal.tokens_after_tree-returns-in-Call
tokens_after_tree-returns-in-Call t' c =
    counted c.args.tree.now (t.Call c.in-Call.path c.in-Call.arguments) ((path_count c.in-Call.path + 1) + (lone_count (length c.in-Call.arguments) + each_count (map tree_count c.in-Call.arguments))) c.args.tokens.now c.tokens_after_row.result.now (twice c.args.tokens.now c.skip.result.now c.tokens_after_row.result.now (path_count c.in-Call.path + 1) (lone_count (length c.in-Call.arguments) + each_count (map tree_count c.in-Call.arguments)) (twice c.args.tokens.now c.tokens_after_path.result.now c.skip.result.now (path_count c.in-Call.path) (1) c.tokens_after_path.ensures c.skip.ensures) c.tokens_after_row.ensures) c.in-Call.is (count-Call c.in-Call.path c.in-Call.arguments ∙ ap (λ n. (path_count c.in-Call.path + 1) + (lone_count n + each_count (map tree_count c.in-Call.arguments))) (length-mapped tree_count c.in-Call.arguments))

pub tokens_after_tree-returns-in-Parentheses : goal.tokens_after_tree-returns-in-Parentheses
tokens_after_tree-returns-in-Parentheses t' c =
    counted c.args.tree.now (t.Parentheses c.in-Parentheses.inner) (1 + (tree_count c.in-Parentheses.inner + 1)) c.args.tokens.now c.tokens_after_piece.result.now (twice c.args.tokens.now c.skip-in-Parentheses.result.now c.tokens_after_piece.result.now (1) (tree_count c.in-Parentheses.inner + 1) (c.skip-in-Parentheses.ensures) (one_more c.skip-in-Parentheses.result.now c.tokens_after_piece.result.now (tree_count c.in-Parentheses.inner) c.tokens_after_piece.ensures)) c.in-Parentheses.is (count-Parentheses c.in-Parentheses.inner ∙ sym (regroup (tree_count c.in-Parentheses.inner) 1))

pub tokens_after_tree-returns-in-Set : goal.tokens_after_tree-returns-in-Set
tokens_after_tree-returns-in-Set t' c =
    counted c.args.tree.now (t.Set c.in-Set.members) (1 + (lone_count (length c.in-Set.members) + each_count (map tree_count c.in-Set.members))) c.args.tokens.now c.tokens_after_row-in-Set.result.now (twice c.args.tokens.now c.skip-in-Set.result.now c.tokens_after_row-in-Set.result.now 1 (lone_count (length c.in-Set.members) + each_count (map tree_count c.in-Set.members)) c.skip-in-Set.ensures c.tokens_after_row-in-Set.ensures) c.in-Set.is (count-Set c.in-Set.members ∙ ap (λ n. 1 + (lone_count n + each_count (map tree_count c.in-Set.members))) (length-mapped tree_count c.in-Set.members))

pub tokens_after_tree-returns-in-Record : goal.tokens_after_tree-returns-in-Record
tokens_after_tree-returns-in-Record t' c =
    counted c.args.tree.now (t.Record c.in-Record.entries) (((1 + lone_count (length c.in-Record.entries)) + each_count (map entry_count c.in-Record.entries))) c.args.tokens.now c.tokens_after_entries.result.now (twice c.args.tokens.now c.tokens_after_opened-row.result.now c.tokens_after_entries.result.now (1 + lone_count (length c.in-Record.entries)) (each_count (map entry_count c.in-Record.entries)) (twice c.args.tokens.now c.skip-in-Record.result.now c.tokens_after_opened-row.result.now 1 (lone_count (length c.in-Record.entries)) c.skip-in-Record.ensures (c.tokens_after_opened-row.ensures ∙ ap (λ n. drop (lone_count n) c.skip-in-Record.result.now) c.len.ensures)) (c.tokens_after_entries.ensures ∙ ap (λ xs. drop (each_count (map entry_count xs)) c.tokens_after_opened-row.result.now) c.as_slice.ensures)) c.in-Record.is (count-Record c.in-Record.entries ∙ ap (λ n. 1 + (lone_count n + each_count (map entry_count c.in-Record.entries))) (length-mapped entry_count c.in-Record.entries) ∙ regroup (lone_count (length c.in-Record.entries)) (each_count (map entry_count c.in-Record.entries)))

pub tokens_after_tree-returns-in-Member : goal.tokens_after_tree-returns-in-Member
tokens_after_tree-returns-in-Member t' c =
    counted c.args.tree.now (t.Member c.in-Member.inner c.in-Member.accesses) (tree_count c.in-Member.inner + total (map access_tree_count c.in-Member.accesses)) c.args.tokens.now c.tokens_after_accesses.result.now (twice c.args.tokens.now c.tokens_after_operand.result.now c.tokens_after_accesses.result.now (tree_count c.in-Member.inner) (total (map access_tree_count c.in-Member.accesses)) (c.tokens_after_operand.ensures) (c.tokens_after_accesses.ensures ∙ ap (λ xs. drop (total (map access_tree_count xs)) c.tokens_after_operand.result.now) c.as_slice-in-Member.ensures)) c.in-Member.is (count-Member c.in-Member.inner c.in-Member.accesses)

pub tokens_after_tree-returns-in-Not : goal.tokens_after_tree-returns-in-Not
tokens_after_tree-returns-in-Not t' c =
    counted c.args.tree.now c.args.tree.now (1 + tree_count c.in-Not.inner) c.args.tokens.now c.tokens_after_operand-in-Not.result.now (twice c.args.tokens.now c.skip-in-Not.result.now c.tokens_after_operand-in-Not.result.now (1) (tree_count c.in-Not.inner) (c.skip-in-Not.ensures) (c.tokens_after_operand-in-Not.ensures)) refl (count-prefix c.args.tree.now c.in-Not.inner c.in-Not.is)

pub tokens_after_tree-returns-in-Product : goal.tokens_after_tree-returns-in-Product
tokens_after_tree-returns-in-Product t' c =
    counted c.args.tree.now c.args.tree.now (tree_count c.in-Product.first + each_count (map tree_count c.in-Product.more)) c.args.tokens.now c.tokens_after_each.result.now (twice c.args.tokens.now c.tokens_after_operand-in-Product.result.now c.tokens_after_each.result.now (tree_count c.in-Product.first) (each_count (map tree_count c.in-Product.more)) (c.tokens_after_operand-in-Product.ensures) (c.tokens_after_each.ensures ∙ ap (λ xs. drop (each_count (map tree_count xs)) c.tokens_after_operand-in-Product.result.now) c.as_slice-in-Product.ensures)) refl (count-chain c.args.tree.now c.in-Product.first c.in-Product.more c.in-Product.is)

pub tokens_after_tree-returns-in-Sum : goal.tokens_after_tree-returns-in-Sum
tokens_after_tree-returns-in-Sum t' c =
    counted c.args.tree.now (t.Sum c.in-Sum.first c.in-Sum.terms) (tree_count c.in-Sum.first + each_count (map term_count c.in-Sum.terms)) c.args.tokens.now c.tokens_after_terms.result.now (twice c.args.tokens.now c.tokens_after_operand-in-Sum.result.now c.tokens_after_terms.result.now (tree_count c.in-Sum.first) (each_count (map term_count c.in-Sum.terms)) (c.tokens_after_operand-in-Sum.ensures) (c.tokens_after_terms.ensures ∙ ap (λ xs. drop (each_count (map term_count xs)) c.tokens_after_operand-in-Sum.result.now) c.as_slice-in-Sum.ensures)) c.in-Sum.is (count-Sum c.in-Sum.first c.in-Sum.terms)

pub tokens_after_tree-returns-in-Compare : goal.tokens_after_tree-returns-in-Compare
tokens_after_tree-returns-in-Compare t' c =
    counted c.args.tree.now (t.Compare c.in-Compare.left c.in-Compare.field-1 c.in-Compare.right) ((tree_count c.in-Compare.left + 1) + tree_count c.in-Compare.right) c.args.tokens.now c.tokens_after_operand-in-Compare.result.now (twice c.args.tokens.now c.tokens_after_piece-in-Compare.result.now c.tokens_after_operand-in-Compare.result.now (tree_count c.in-Compare.left + 1) (tree_count c.in-Compare.right) (one_more c.args.tokens.now c.tokens_after_piece-in-Compare.result.now (tree_count c.in-Compare.left) c.tokens_after_piece-in-Compare.ensures) (c.tokens_after_operand-in-Compare.ensures)) c.in-Compare.is (count-Compare c.in-Compare.left c.in-Compare.field-1 c.in-Compare.right)

pub tokens_after_tree-returns-in-Has : goal.tokens_after_tree-returns-in-Has
tokens_after_tree-returns-in-Has t' c =
    counted c.args.tree.now c.args.tree.now (tree_count c.in-Has.inner + 2) c.args.tokens.now c.skip-in-Has.result.now (twice c.args.tokens.now c.tokens_after_operand-in-Has.result.now c.skip-in-Has.result.now (tree_count c.in-Has.inner) (2) (c.tokens_after_operand-in-Has.ensures) (c.skip-in-Has.ensures)) refl (count-postfix c.args.tree.now c.in-Has.inner c.in-Has.is)

pub tokens_after_tree-returns-in-Is : goal.tokens_after_tree-returns-in-Is
tokens_after_tree-returns-in-Is t' c =
    counted c.args.tree.now (t.Is c.in-Is.inner c.in-Is.path) ((tree_count c.in-Is.inner + 1) + path_count c.in-Is.path) c.args.tokens.now c.tokens_after_path-in-Is.result.now (twice c.args.tokens.now c.tokens_after_piece-in-Is.result.now c.tokens_after_path-in-Is.result.now (tree_count c.in-Is.inner + 1) (path_count c.in-Is.path) (one_more c.args.tokens.now c.tokens_after_piece-in-Is.result.now (tree_count c.in-Is.inner) c.tokens_after_piece-in-Is.ensures) (c.tokens_after_path-in-Is.ensures)) c.in-Is.is (count-Is c.in-Is.inner c.in-Is.path)

pub tokens_after_tree-returns-in-IsIn : goal.tokens_after_tree-returns-in-IsIn
tokens_after_tree-returns-in-IsIn t' c =
    counted c.args.tree.now (t.IsIn c.in-IsIn.inner c.in-IsIn.path c.in-IsIn.outer) ((((tree_count c.in-IsIn.inner + 1) + path_count c.in-IsIn.path) + 1) + tree_count c.in-IsIn.outer) c.args.tokens.now c.tokens_after_operand-in-IsIn.result.now (twice c.args.tokens.now c.skip-in-IsIn.result.now c.tokens_after_operand-in-IsIn.result.now (((tree_count c.in-IsIn.inner + 1) + path_count c.in-IsIn.path) + 1) (tree_count c.in-IsIn.outer) (twice c.args.tokens.now c.tokens_after_path-tested.result.now c.skip-in-IsIn.result.now ((tree_count c.in-IsIn.inner + 1) + path_count c.in-IsIn.path) (1) (twice c.args.tokens.now c.tokens_after_piece-in-IsIn.result.now c.tokens_after_path-tested.result.now (tree_count c.in-IsIn.inner + 1) (path_count c.in-IsIn.path) (one_more c.args.tokens.now c.tokens_after_piece-in-IsIn.result.now (tree_count c.in-IsIn.inner) c.tokens_after_piece-in-IsIn.ensures) (c.tokens_after_path-tested.ensures)) (c.skip-in-IsIn.ensures)) (c.tokens_after_operand-in-IsIn.ensures)) c.in-IsIn.is (count-IsIn c.in-IsIn.inner c.in-IsIn.path c.in-IsIn.outer)

pub tokens_after_tree-returns-in-If : goal.tokens_after_tree-returns-in-If
tokens_after_tree-returns-in-If t' c =
    counted c.args.tree.now (t.If c.in-If.test c.in-If.consequent c.in-If.alternative) (((1 + (tree_count c.in-If.test + 1)) + (tree_count c.in-If.consequent + 1)) + tree_count c.in-If.alternative) c.args.tokens.now c.tokens_after_operand-in-If.result.now (twice c.args.tokens.now c.tokens_after_piece-chosen.result.now c.tokens_after_operand-in-If.result.now ((1 + (tree_count c.in-If.test + 1)) + (tree_count c.in-If.consequent + 1)) (tree_count c.in-If.alternative) (twice c.args.tokens.now c.tokens_after_piece-tested.result.now c.tokens_after_piece-chosen.result.now (1 + (tree_count c.in-If.test + 1)) (tree_count c.in-If.consequent + 1) (twice c.args.tokens.now c.skip-in-If.result.now c.tokens_after_piece-tested.result.now (1) (tree_count c.in-If.test + 1) (c.skip-in-If.ensures) (one_more c.skip-in-If.result.now c.tokens_after_piece-tested.result.now (tree_count c.in-If.test) c.tokens_after_piece-tested.ensures)) (one_more c.tokens_after_piece-tested.result.now c.tokens_after_piece-chosen.result.now (tree_count c.in-If.consequent) c.tokens_after_piece-chosen.ensures)) (c.tokens_after_operand-in-If.ensures)) c.in-If.is (count-If c.in-If.test c.in-If.consequent c.in-If.alternative ∙ sym (regroup_if (tree_count c.in-If.test) (tree_count c.in-If.consequent) (tree_count c.in-If.alternative)))

pub tokens_after_operand-returns : goal.tokens_after_operand-returns
tokens_after_operand-returns t' c =
    c.tokens_after_tree.ensures ∙ ap (λ a. drop (tree_count a) c.args.tokens.now) c.deref.ensures

pub tokens_after_piece-returns : goal.tokens_after_piece-returns
tokens_after_piece-returns t' c = c.skip.ensures ∙ ap (drop 1) c.tokens_after_operand.ensures

pub tokens_after_access-returns-in-Method : goal.tokens_after_access-returns-in-Method
tokens_after_access-returns-in-Method t' c =
    twice c.args.tokens.now c.skip-in-Method.result.now c.tokens_after_row.result.now 3 (lone_count (length c.in-Method.arguments) + each_count (map tree_count c.in-Method.arguments)) c.skip-in-Method.ensures c.tokens_after_row.ensures
    ∙ ap (λ n. drop (3 + (lone_count n + each_count (map tree_count c.in-Method.arguments))) c.args.tokens.now) (sym (length-mapped tree_count c.in-Method.arguments))
    ∙ ap (λ x. drop (access_tree_count x) c.args.tokens.now) (sym c.in-Method.is)

pub tokens_after_each-loop-tree-preserved : goal.tokens_after_each-loop-tree-preserved
tokens_after_each-loop-tree-preserved t' c =
    turned each_count tree_count (λ n. n + 1) (λ n ns. refl) c.args.trees.now c.loop-tree.tree-index c.tree-item.result c.loop-tree.rest.now c.skip-rest.result.now c.tree-item.is c.loop-tree-test.true
    (twice c.loop-tree.rest.now c.tokens_after_tree.result.now c.skip-rest.result.now (tree_count c.tree-item.result) 1 c.tokens_after_tree.ensures c.skip-rest.ensures) ∙ c.loop-tree.invariant

pub tokens_after_terms-loop-term-preserved : goal.tokens_after_terms-loop-term-preserved
tokens_after_terms-loop-term-preserved t' c =
    turned each_count term_count (λ n. n + 1) (λ n ns. refl) c.args.terms.now c.loop-term.term-index c.term-item.result c.loop-term.rest.now c.skip-rest.result.now c.term-item.is c.loop-term-test.true
    (twice c.loop-term.rest.now c.tokens_after_tree.result.now c.skip-rest.result.now (term_count c.term-item.result) 1 c.tokens_after_tree.ensures c.skip-rest.ensures) ∙ c.loop-term.invariant

pub tokens_after_entries-loop-entry-preserved : goal.tokens_after_entries-loop-entry-preserved
tokens_after_entries-loop-entry-preserved t' c =
    turned each_count entry_count (λ n. n + 1) (λ n ns. refl) c.args.entries.now c.loop-entry.entry-index c.entry-item.result c.loop-entry.rest.now c.skip-rest.result.now c.entry-item.is c.loop-entry-test.true
    (twice c.loop-entry.rest.now c.tokens_after_tree.result.now c.skip-rest.result.now (entry_count c.entry-item.result) 1 (twice c.loop-entry.rest.now c.skip.result.now c.tokens_after_tree.result.now 2 (tree_count c.entry-item.result.value) c.skip.ensures c.tokens_after_tree.ensures) c.skip-rest.ensures) ∙ c.loop-entry.invariant

pub tokens_after_tree-tokens_after_row-requires : goal.tokens_after_tree-tokens_after_row-requires
tokens_after_tree-tokens_after_row-requires t' c = (search (rules, v.sized-Call), tt)

pub tokens_after_tree-tokens_after_row-requires-in-Set : goal.tokens_after_tree-tokens_after_row-requires-in-Set
tokens_after_tree-tokens_after_row-requires-in-Set t' c = (search (rules, v.sized-Set), tt)

pub tokens_after_tree-tokens_after_piece-requires : goal.tokens_after_tree-tokens_after_piece-requires
tokens_after_tree-tokens_after_piece-requires t' c = (search (rules, v.sized-Parentheses), tt)

pub tokens_after_tree-tokens_after_entries-requires : goal.tokens_after_tree-tokens_after_entries-requires
tokens_after_tree-tokens_after_entries-requires t' c = (search (rules, v.sized-Record), tt)

pub tokens_after_tree-tokens_after_operand-requires : goal.tokens_after_tree-tokens_after_operand-requires
tokens_after_tree-tokens_after_operand-requires t' c = (search (rules, v.sized-Member), tt)

pub tokens_after_tree-tokens_after_accesses-requires : goal.tokens_after_tree-tokens_after_accesses-requires
tokens_after_tree-tokens_after_accesses-requires t' c = (search (rules, v.sized-Member), tt)

pub tokens_after_tree-tokens_after_terms-requires : goal.tokens_after_tree-tokens_after_terms-requires
tokens_after_tree-tokens_after_terms-requires t' c = (search (rules, v.sized-Sum), tt)

pub tokens_after_tree-tokens_after_operand-requires-in-Sum : goal.tokens_after_tree-tokens_after_operand-requires-in-Sum
tokens_after_tree-tokens_after_operand-requires-in-Sum t' c = (search (rules, v.sized-Sum), tt)

pub tokens_after_tree-tokens_after_piece-requires-in-Compare : goal.tokens_after_tree-tokens_after_piece-requires-in-Compare
tokens_after_tree-tokens_after_piece-requires-in-Compare t' c = (search (rules, v.sized-Compare), tt)

pub tokens_after_tree-tokens_after_operand-requires-in-Compare : goal.tokens_after_tree-tokens_after_operand-requires-in-Compare
tokens_after_tree-tokens_after_operand-requires-in-Compare t' c = (search (rules, v.sized-Compare), tt)

pub tokens_after_tree-tokens_after_piece-requires-in-Is : goal.tokens_after_tree-tokens_after_piece-requires-in-Is
tokens_after_tree-tokens_after_piece-requires-in-Is t' c = (search (rules, v.sized-Is), tt)

pub tokens_after_tree-tokens_after_piece-requires-in-IsIn : goal.tokens_after_tree-tokens_after_piece-requires-in-IsIn
tokens_after_tree-tokens_after_piece-requires-in-IsIn t' c = (search (rules, v.sized-IsIn), tt)

pub tokens_after_tree-tokens_after_operand-requires-in-IsIn : goal.tokens_after_tree-tokens_after_operand-requires-in-IsIn
tokens_after_tree-tokens_after_operand-requires-in-IsIn t' c = (search (rules, v.sized-IsIn), tt)

pub tokens_after_tree-tokens_after_piece-tested-requires : goal.tokens_after_tree-tokens_after_piece-tested-requires
tokens_after_tree-tokens_after_piece-tested-requires t' c = (search (rules, v.sized-If), tt)

pub tokens_after_tree-tokens_after_piece-chosen-requires : goal.tokens_after_tree-tokens_after_piece-chosen-requires
tokens_after_tree-tokens_after_piece-chosen-requires t' c = (search (rules, v.sized-If), tt)

pub tokens_after_tree-tokens_after_operand-requires-in-If : goal.tokens_after_tree-tokens_after_operand-requires-in-If
tokens_after_tree-tokens_after_operand-requires-in-If t' c = (search (rules, v.sized-If), tt)

pub tokens_after_operand-tokens_after_tree-requires : goal.tokens_after_operand-tokens_after_tree-requires
tokens_after_operand-tokens_after_tree-requires t' c = (search rules, tt)

pub tokens_after_piece-tokens_after_operand-requires : goal.tokens_after_piece-tokens_after_operand-requires
tokens_after_piece-tokens_after_operand-requires t' c = (search rules, tt)

pub tokens_after_row-tokens_after_each-requires : goal.tokens_after_row-tokens_after_each-requires
tokens_after_row-tokens_after_each-requires t' c = (search rules, tt)

pub tokens_after_each-tokens_after_tree-requires : goal.tokens_after_each-tokens_after_tree-requires
tokens_after_each-tokens_after_tree-requires t' c = (search (rules, at_most), tt)

pub tokens_after_terms-tokens_after_tree-requires : goal.tokens_after_terms-tokens_after_tree-requires
tokens_after_terms-tokens_after_tree-requires t' c = (search (rules, at_most), tt)

pub tokens_after_entries-tokens_after_tree-requires : goal.tokens_after_entries-tokens_after_tree-requires
tokens_after_entries-tokens_after_tree-requires t' c = (search (rules, at_most), tt)

pub tokens_after_accesses-tokens_after_access-rest-requires : goal.tokens_after_accesses-tokens_after_access-rest-requires
tokens_after_accesses-tokens_after_access-rest-requires t' c = (search (rules, at_most), tt)

pub tokens_after_access-tokens_after_row-requires : goal.tokens_after_access-tokens_after_row-requires
tokens_after_access-tokens_after_row-requires t' c = (search rules, tt)
