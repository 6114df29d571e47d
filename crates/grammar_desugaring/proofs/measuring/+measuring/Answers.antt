use Rattle.std.proofs.Common.{rules, refl, ◌≡◌, ◌∙◌, ap, sym, subst, map, length, IfOk}
use Rattle.std.proofs.lemmas.List.{at_drop_all}
use Rattle.std.specs.List.{AllByRecursion, fold}
use Rattle.grammar_syntax.specs.declared.tree.ExprTree.{the_lemmas}
use Rattle.grammar_desugaring.specs.ReportedErrors.{least}
use Rattle.grammar_desugaring.specs.Repeats.{repeat_faults}
use Rattle.grammar_desugaring.specs.Faults.{key_of, function_faults}
use Rattle.grammar_desugaring.specs.inner.Giving.{Gave}
use Rattle.grammar_desugaring.specs.inner.WellFormed.{WellFormed, AllWellFormed, WellFormedEntry, WellFormedTerm, WellFormedAccess}
use Rattle.grammar_desugaring.specs.TreeMeasures.{measured, measured_negated}
use Rattle.grammar_desugaring.specs.Sums.{nothing, node_measure, side_by_side, paired, called, with_fault, measured_all, measured_chain, measured_term, measured_entry, measured_access, measured_compared}
use Rattle.grammar_desugaring.proofs.Lists.{all-at, stepped}
use Rattle.grammar_desugaring.proofs.Gaving.{one, two, three}
use Rattle.grammar_desugaring.proofs.PartsOf.{of-Number, of-Call, of-Parentheses, of-Not, of-Minus, of-Set, of-Record, of-Member, of-Product, of-Sum, of-Compare, of-Has, of-Like, of-Is, of-IsIn, of-And, of-Or, of-If}
use Rattle.grammar_desugaring.proofs.MeasureLemmas.{measured-Boolean, measured-Number, measured-Text, measured-Variable, measured-Uid, measured-Call, measured-Parentheses, measured-Minus, measured-Set, measured-Record, measured-Member, measured-Not, measured-Product, measured-Sum, measured-Compare, measured-Has, measured-Like, measured-Is, measured-IsIn, measured-And, measured-Or, measured-If, measured_negated-Number, measured_negated-other}
use Rattle.grammar_desugaring.proofs.measuring.+measuring.Goals as goal

pub measure_tree-measure_all-requires : goal.measure_tree-measure_all-requires
measure_tree-measure_all-requires t c = (search (rules, the_lemmas), subst (AllWellFormed c.args.text.now) (sym c.as_slice.ensures) (of-Call c.args.text.now c.args.tree.now c.in-Call.path c.in-Call.arguments c.in-Call.is c.requires.1.1).1)

pub measure_tree-function_fault-requires : goal.measure_tree-function_fault-requires
measure_tree-function_fault-requires t c = (of-Call c.args.text.now c.args.tree.now c.in-Call.path c.in-Call.arguments c.in-Call.is c.requires.1.1).0

pub measure_tree-measure_all-requires-in-Set : goal.measure_tree-measure_all-requires-in-Set
measure_tree-measure_all-requires-in-Set t c = (search (rules, the_lemmas), subst (AllWellFormed c.args.text.now) (sym c.as_slice-in-Set.ensures) (of-Set c.args.text.now c.args.tree.now c.in-Set.members c.in-Set.is c.requires.1.1))

pub measure_tree-repeated_key-requires : goal.measure_tree-repeated_key-requires
measure_tree-repeated_key-requires t c = subst (AllByRecursion (WellFormedEntry c.args.text.now)) (sym c.as_slice-in-Record.ensures) (of-Record c.args.text.now c.args.tree.now c.in-Record.entries c.in-Record.is c.requires.1.1)

pub measure_tree-measure_entries-requires : goal.measure_tree-measure_entries-requires
measure_tree-measure_entries-requires t c = (search (rules, the_lemmas), subst (AllByRecursion (WellFormedEntry c.args.text.now)) (sym c.as_slice-in-Record-2.ensures) (of-Record c.args.text.now c.args.tree.now c.in-Record.entries c.in-Record.is c.requires.1.1))

pub measure_tree-measure_accesses-requires : goal.measure_tree-measure_accesses-requires
measure_tree-measure_accesses-requires t c = (search (rules, the_lemmas), of-Member c.args.text.now c.args.tree.now c.in-Member.inner c.in-Member.accesses c.in-Member.is c.requires.1.1)

pub measure_tree-measure_chain-requires : goal.measure_tree-measure_chain-requires
measure_tree-measure_chain-requires t c = (search (rules, the_lemmas), of-Product c.args.text.now c.args.tree.now c.in-Product.inner c.in-Product.more c.in-Product.is c.requires.1.1)

pub measure_tree-measure_terms-requires : goal.measure_tree-measure_terms-requires
measure_tree-measure_terms-requires t c = (search (rules, the_lemmas), of-Sum c.args.text.now c.args.tree.now c.in-Sum.inner c.in-Sum.terms c.in-Sum.is c.requires.1.1)

pub measure_tree-measure_tree-requires-in-Has : goal.measure_tree-measure_tree-requires-in-Has
measure_tree-measure_tree-requires-in-Has t c = (search (rules, the_lemmas), subst (WellFormed c.args.text.now) (sym c.deref-in-Has.ensures) (of-Has c.args.text.now c.args.tree.now c.in-Has.inner c.in-Has.field-1 c.in-Has.is c.requires.1.1).0)

pub measure_tree-measure_tree-requires-in-Like : goal.measure_tree-measure_tree-requires-in-Like
measure_tree-measure_tree-requires-in-Like t c = (search (rules, the_lemmas), subst (WellFormed c.args.text.now) (sym c.deref-in-Like.ensures) (of-Like c.args.text.now c.args.tree.now c.in-Like.inner c.in-Like.field-1 c.in-Like.is c.requires.1.1).0)

pub measure_tree-measure_tree-requires-in-Is : goal.measure_tree-measure_tree-requires-in-Is
measure_tree-measure_tree-requires-in-Is t c = (search (rules, the_lemmas), subst (WellFormed c.args.text.now) (sym c.deref-in-Is.ensures) (of-Is c.args.text.now c.args.tree.now c.in-Is.inner c.in-Is.field-1 c.in-Is.is c.requires.1.1).0)

pub measure_tree-measure_chain-requires-in-And : goal.measure_tree-measure_chain-requires-in-And
measure_tree-measure_chain-requires-in-And t c = (search (rules, the_lemmas), of-And c.args.text.now c.args.tree.now c.in-And.inner c.in-And.more c.in-And.is c.requires.1.1)

pub measure_tree-measure_chain-requires-in-Or : goal.measure_tree-measure_chain-requires-in-Or
measure_tree-measure_chain-requires-in-Or t c = (search (rules, the_lemmas), of-Or c.args.text.now c.args.tree.now c.in-Or.inner c.in-Or.more c.in-Or.is c.requires.1.1)

pub measure_tree-measure_tree-first-requires : goal.measure_tree-measure_tree-first-requires
measure_tree-measure_tree-first-requires t c = (search (rules, the_lemmas), subst (WellFormed c.args.text.now) (sym c.deref-in-If.ensures) (of-If c.args.text.now c.args.tree.now c.in-If.test c.in-If.consequent c.in-If.alternative c.in-If.is c.requires.1.1).0)

pub measure_tree-measure_tree-second-requires : goal.measure_tree-measure_tree-second-requires
measure_tree-measure_tree-second-requires t c = (search (rules, the_lemmas), subst (WellFormed c.args.text.now) (sym c.deref-in-If-2.ensures) (of-If c.args.text.now c.args.tree.now c.in-If.test c.in-If.consequent c.in-If.alternative c.in-If.is c.requires.1.1).1.0)

pub measure_tree-measure_tree-third-requires : goal.measure_tree-measure_tree-third-requires
measure_tree-measure_tree-third-requires t c = (search (rules, the_lemmas), subst (WellFormed c.args.text.now) (sym c.deref-in-If-3.ensures) (of-If c.args.text.now c.args.tree.now c.in-If.test c.in-If.consequent c.in-If.alternative c.in-If.is c.requires.1.1).1.1)

pub measure_access-measure_all-requires : goal.measure_access-measure_all-requires
measure_access-measure_all-requires t c = (search (rules, the_lemmas), subst (AllWellFormed c.args.text.now) (sym c.as_slice.ensures) (subst (WellFormedAccess c.args.text.now) c.in-Method.is c.requires.1.1).1)

pub measure_accesses-measure_access-requires : goal.measure_accesses-measure_access-requires
measure_accesses-measure_access-requires t c = (search (rules, the_lemmas), subst (WellFormedAccess c.args.text.now) (sym c.access-item.is) (all-at (WellFormedAccess c.args.text.now) c.as_slice-accesses.result.now c.loop-access.access-index c.access-item.result (subst (AllByRecursion (WellFormedAccess c.args.text.now)) (sym c.as_slice-accesses.ensures) c.requires.1.1.1) c.loop-access-test.true))

pub measure_chain-loop-tree-preserved : goal.measure_chain-loop-tree-preserved
measure_chain-loop-tree-preserved t c =
    stepped (measured_chain c.args.text.now) (λ j x. paired j (measured c.args.text.now x)) (λ j x xs. refl) c.as_slice-trees.result.now c.loop-tree.tree-index c.tree-item.result c.loop-tree.left c.paired-left.result c.tree-item.is c.loop-tree-test.true
    (c.paired-left.ensures ∙ ap (paired c.loop-tree.left) c.in_ok-measure_tree.ensures) ∙ c.loop-tree.invariant

pub measure_terms-loop-term-preserved : goal.measure_terms-loop-term-preserved
measure_terms-loop-term-preserved t c =
    stepped (fold (measured_term c.args.text.now)) (measured_term c.args.text.now) (λ j x xs. refl) c.as_slice-terms.result.now c.loop-term.term-index c.term-item.result c.loop-term.left c.paired-left.result c.term-item.is c.loop-term-test.true
    (c.paired-left.ensures ∙ ap (paired c.loop-term.left) c.in_ok-measure_tree.ensures) ∙ c.loop-term.invariant

pub measure_accesses-loop-access-preserved : goal.measure_accesses-loop-access-preserved
measure_accesses-loop-access-preserved t c =
    stepped (fold (measured_access c.args.text.now)) (measured_access c.args.text.now) (λ j x xs. refl) c.as_slice-accesses.result.now c.loop-access.access-index c.access-item.result c.loop-access.left c.in_ok-left-2.left c.access-item.is c.loop-access-test.true
    (c.in_ok-left-2.ensures) ∙ c.loop-access.invariant

pub measure_tree-returns-in-Boolean : goal.measure_tree-returns-in-Boolean
measure_tree-returns-in-Boolean t c = cc (measured-Boolean c.args.text.now c.in-Boolean.field-0)

pub measure_tree-returns-in-Number : goal.measure_tree-returns-in-Number
measure_tree-returns-in-Number t c = cc (measured-Number c.args.text.now c.in-Number.token)

pub measure_tree-returns-in-Text : goal.measure_tree-returns-in-Text
measure_tree-returns-in-Text t c = cc (measured-Text c.args.text.now c.in-Text.field-0)

pub measure_tree-returns-in-Variable : goal.measure_tree-returns-in-Variable
measure_tree-returns-in-Variable t c = cc (measured-Variable c.args.text.now c.in-Variable.field-0)

pub measure_tree-returns-in-Uid : goal.measure_tree-returns-in-Uid
measure_tree-returns-in-Uid t c = cc (measured-Uid c.args.text.now c.in-Uid.field-0)

pub measure_tree-returns-in-Call : goal.measure_tree-returns-in-Call
measure_tree-returns-in-Call t c =
    one (λ i. called (least (function_faults c.args.text.now c.in-Call.path (length c.in-Call.arguments))) (with_fault (least (function_faults c.args.text.now c.in-Call.path (length c.in-Call.arguments))) i)) (measured_all c.args.text.now c.in-Call.arguments) (measured c.args.text.now c.args.tree.now) c.measure_all.result c.call.result (subst (λ ys. IfOk c.measure_all.result (λ j. j ≡ measured_all c.args.text.now ys)) c.as_slice.ensures c.measure_all.ensures)
    (subst (λ o. IfOk c.call.result (λ j. Gave c.measure_all.result (λ i. j ≡ called o (with_fault o i)))) (c.function_fault.ensures ∙ ap (λ n. least (function_faults c.args.text.now c.in-Call.path n)) c.len.ensures) c.call.ensures) (sym (measured-Call c.args.text.now c.in-Call.path c.in-Call.arguments) ∙ ap (measured c.args.text.now) (sym c.in-Call.is))

pub measure_tree-returns-in-Set : goal.measure_tree-returns-in-Set
measure_tree-returns-in-Set t c = one node_measure (measured_all c.args.text.now c.in-Set.members) (measured c.args.text.now c.args.tree.now) c.measure_all-in-Set.result c.node_measure.result (subst (λ ys. IfOk c.measure_all-in-Set.result (λ j. j ≡ measured_all c.args.text.now ys)) c.as_slice-in-Set.ensures c.measure_all-in-Set.ensures) c.node_measure.ensures (sym (measured-Set c.args.text.now c.in-Set.members) ∙ ap (measured c.args.text.now) (sym c.in-Set.is))

pub measure_tree-returns-in-Record : goal.measure_tree-returns-in-Record
measure_tree-returns-in-Record t c =
    two (λ o i. node_measure (with_fault o i)) (least (repeat_faults (map (key_of c.args.text.now) c.in-Record.entries))) (fold (measured_entry c.args.text.now) nothing c.in-Record.entries) (measured c.args.text.now c.args.tree.now) c.repeated_key.result c.measure_entries.result c.record.result
    (subst (λ es. IfOk c.repeated_key.result (λ o. o ≡ least (repeat_faults (map (key_of c.args.text.now) es)))) c.as_slice-in-Record.ensures c.repeated_key.ensures) (subst (λ ys. IfOk c.measure_entries.result (λ j. j ≡ fold (measured_entry c.args.text.now) nothing ys)) c.as_slice-in-Record-2.ensures c.measure_entries.ensures) c.record.ensures (sym (measured-Record c.args.text.now c.in-Record.entries) ∙ ap (measured c.args.text.now) (sym c.in-Record.is))

pub measure_tree-returns-in-Not : goal.measure_tree-returns-in-Not
measure_tree-returns-in-Not t c = one node_measure (measured c.args.text.now c.in-Not.inner) (measured c.args.text.now c.args.tree.now) c.measure_tree-in-Not.result c.node_measure-in-Not.result (subst (λ y. IfOk c.measure_tree-in-Not.result (λ j. j ≡ measured c.args.text.now y)) c.deref-in-Not.ensures c.measure_tree-in-Not.ensures) c.node_measure-in-Not.ensures (sym (measured-Not c.args.text.now c.in-Not.inner) ∙ ap (measured c.args.text.now) (sym c.in-Not.is))

pub measure_tree-returns-in-Has : goal.measure_tree-returns-in-Has
measure_tree-returns-in-Has t c = one node_measure (measured c.args.text.now c.in-Has.inner) (measured c.args.text.now c.args.tree.now) c.measure_tree-in-Has.result c.node_measure-in-Has.result (subst (λ y. IfOk c.measure_tree-in-Has.result (λ j. j ≡ measured c.args.text.now y)) c.deref-in-Has.ensures c.measure_tree-in-Has.ensures) c.node_measure-in-Has.ensures (sym (measured-Has c.args.text.now c.in-Has.inner c.in-Has.field-1) ∙ ap (measured c.args.text.now) (sym c.in-Has.is))

pub measure_tree-returns-in-Like : goal.measure_tree-returns-in-Like
measure_tree-returns-in-Like t c = one node_measure (measured c.args.text.now c.in-Like.inner) (measured c.args.text.now c.args.tree.now) c.measure_tree-in-Like.result c.node_measure-in-Like.result (subst (λ y. IfOk c.measure_tree-in-Like.result (λ j. j ≡ measured c.args.text.now y)) c.deref-in-Like.ensures c.measure_tree-in-Like.ensures) c.node_measure-in-Like.ensures (sym (measured-Like c.args.text.now c.in-Like.inner c.in-Like.field-1) ∙ ap (measured c.args.text.now) (sym c.in-Like.is))

pub measure_tree-returns-in-Is : goal.measure_tree-returns-in-Is
measure_tree-returns-in-Is t c = one node_measure (measured c.args.text.now c.in-Is.inner) (measured c.args.text.now c.args.tree.now) c.measure_tree-in-Is.result c.node_measure-in-Is.result (subst (λ y. IfOk c.measure_tree-in-Is.result (λ j. j ≡ measured c.args.text.now y)) c.deref-in-Is.ensures c.measure_tree-in-Is.ensures) c.node_measure-in-Is.ensures (sym (measured-Is c.args.text.now c.in-Is.inner c.in-Is.field-1) ∙ ap (measured c.args.text.now) (sym c.in-Is.is))

pub measure_tree-returns-in-Member : goal.measure_tree-returns-in-Member
measure_tree-returns-in-Member t c = subst (λ y. IfOk c.measure_accesses.result (λ j. j ≡ y)) (sym (measured-Member c.args.text.now c.in-Member.inner c.in-Member.accesses) ∙ ap (measured c.args.text.now) (sym c.in-Member.is)) c.measure_accesses.ensures

pub measure_tree-returns-in-Product : goal.measure_tree-returns-in-Product
measure_tree-returns-in-Product t c = subst (λ y. IfOk c.measure_chain.result (λ j. j ≡ y)) (sym (measured-Product c.args.text.now c.in-Product.inner c.in-Product.more) ∙ ap (measured c.args.text.now) (sym c.in-Product.is)) c.measure_chain.ensures

pub measure_tree-returns-in-Sum : goal.measure_tree-returns-in-Sum
measure_tree-returns-in-Sum t c = subst (λ y. IfOk c.measure_terms.result (λ j. j ≡ y)) (sym (measured-Sum c.args.text.now c.in-Sum.inner c.in-Sum.terms) ∙ ap (measured c.args.text.now) (sym c.in-Sum.is)) c.measure_terms.ensures

pub measure_tree-returns-in-And : goal.measure_tree-returns-in-And
measure_tree-returns-in-And t c = subst (λ y. IfOk c.measure_chain-in-And.result (λ j. j ≡ y)) (sym (measured-And c.args.text.now c.in-And.inner c.in-And.more) ∙ ap (measured c.args.text.now) (sym c.in-And.is)) c.measure_chain-in-And.ensures

pub measure_tree-returns-in-Or : goal.measure_tree-returns-in-Or
measure_tree-returns-in-Or t c = subst (λ y. IfOk c.measure_chain-in-Or.result (λ j. j ≡ y)) (sym (measured-Or c.args.text.now c.in-Or.inner c.in-Or.more) ∙ ap (measured c.args.text.now) (sym c.in-Or.is)) c.measure_chain-in-Or.ensures

pub measure_tree-returns-in-Compare : goal.measure_tree-returns-in-Compare
measure_tree-returns-in-Compare t c =
    one (λ pair. measured_compared c.in-Compare.operator pair.0 pair.1) (measured c.args.text.now c.in-Compare.left, measured c.args.text.now c.in-Compare.right) (measured c.args.text.now c.args.tree.now) c.measure_both.result c.compare.result
    c.measure_both.ensures c.compare.ensures (sym (measured-Compare c.args.text.now c.in-Compare.left c.in-Compare.operator c.in-Compare.right) ∙ ap (measured c.args.text.now) (sym c.in-Compare.is))

pub measure_tree-returns-in-IsIn : goal.measure_tree-returns-in-IsIn
measure_tree-returns-in-IsIn t c =
    one (λ pair. paired (node_measure pair.0) (paired pair.0 pair.1)) (measured c.args.text.now c.in-IsIn.inner, measured c.args.text.now c.in-IsIn.outer) (measured c.args.text.now c.args.tree.now) c.measure_both-in-IsIn.result c.is_in.result
    c.measure_both-in-IsIn.ensures c.is_in.ensures (sym (measured-IsIn c.args.text.now c.in-IsIn.inner c.in-IsIn.field-1 c.in-IsIn.outer) ∙ ap (measured c.args.text.now) (sym c.in-IsIn.is))

pub measure_tree-returns-in-If : goal.measure_tree-returns-in-If
measure_tree-returns-in-If t c =
    three (λ i k l. node_measure (side_by_side i (side_by_side k l))) (measured c.args.text.now c.in-If.test) (measured c.args.text.now c.in-If.consequent) (measured c.args.text.now c.in-If.alternative) (measured c.args.text.now c.args.tree.now) c.measure_tree-first.result c.measure_tree-second.result c.measure_tree-third.result c.if_then_else.result
    (subst (λ y. IfOk c.measure_tree-first.result (λ j. j ≡ measured c.args.text.now y)) c.deref-in-If.ensures c.measure_tree-first.ensures) (subst (λ y. IfOk c.measure_tree-second.result (λ j. j ≡ measured c.args.text.now y)) c.deref-in-If-2.ensures c.measure_tree-second.ensures) (subst (λ y. IfOk c.measure_tree-third.result (λ j. j ≡ measured c.args.text.now y)) c.deref-in-If-3.ensures c.measure_tree-third.ensures) c.if_then_else.ensures (sym (measured-If c.args.text.now c.in-If.test c.in-If.consequent c.in-If.alternative) ∙ ap (measured c.args.text.now) (sym c.in-If.is))

pub measure_behind_minus-returns-in-Number : goal.measure_behind_minus-returns-in-Number
measure_behind_minus-returns-in-Number t c =
    c.measure_negated_number.ensures
    ∙ sym (measured_negated-Number c.args.text.now c.in-Number.token)
    ∙ ap (measured_negated c.args.text.now) (sym c.in-Number.is)

pub measure_behind_minus-returns-in_default : goal.measure_behind_minus-returns-in_default
measure_behind_minus-returns-in_default t c = one node_measure (measured c.args.text.now c.args.tree.now) (measured_negated c.args.text.now c.args.tree.now) c.measure_tree.result c.node_measure.result c.measure_tree.ensures c.node_measure.ensures (sym (measured_negated-other c.args.text.now c.args.tree.now c.in_default.not-Number))

pub measure_tree-measure_tree-requires : goal.measure_tree-measure_tree-requires
measure_tree-measure_tree-requires t c = (search (rules, the_lemmas), subst (WellFormed c.args.text.now) (sym c.deref.ensures) (of-Parentheses c.args.text.now c.args.tree.now c.in-Parentheses.inner c.in-Parentheses.is c.requires.1.1))

pub measure_tree-measure_tree-requires-in-Not : goal.measure_tree-measure_tree-requires-in-Not
measure_tree-measure_tree-requires-in-Not t c = (search (rules, the_lemmas), subst (WellFormed c.args.text.now) (sym c.deref-in-Not.ensures) (of-Not c.args.text.now c.args.tree.now c.in-Not.inner c.in-Not.is c.requires.1.1))

pub measure_tree-measure_behind_minus-requires : goal.measure_tree-measure_behind_minus-requires
measure_tree-measure_behind_minus-requires t c = (search (rules, the_lemmas), subst (WellFormed c.args.text.now) (sym c.deref-in-Minus.ensures) (of-Minus c.args.text.now c.args.tree.now c.in-Minus.inner c.in-Minus.is c.requires.1.1))

pub measure_behind_minus-measure_tree-requires : goal.measure_behind_minus-measure_tree-requires
measure_behind_minus-measure_tree-requires t c = (search (rules, the_lemmas), c.requires.1.1)

pub measure_all-measure_tree-requires : goal.measure_all-measure_tree-requires
measure_all-measure_tree-requires t c = (search (rules, the_lemmas), subst (WellFormed c.args.text.now) (sym c.tree-item.is) (all-at (WellFormed c.args.text.now) c.args.trees.now c.loop-tree.tree-index c.tree-item.result c.requires.1.1 c.loop-tree-test.true))

pub measure_chain-measure_tree-requires-in-loop-tree : goal.measure_chain-measure_tree-requires-in-loop-tree
measure_chain-measure_tree-requires-in-loop-tree t c = (search (rules, the_lemmas), subst (WellFormed c.args.text.now) (sym c.tree-item.is) (all-at (WellFormed c.args.text.now) c.as_slice-trees.result.now c.loop-tree.tree-index c.tree-item.result (subst (AllByRecursion (WellFormed c.args.text.now)) (sym c.as_slice-trees.ensures) c.requires.1.1.1) c.loop-tree-test.true))

pub measure_entries-measure_tree-requires : goal.measure_entries-measure_tree-requires
measure_entries-measure_tree-requires t c = (search (rules, the_lemmas), (subst (WellFormedEntry c.args.text.now) (sym c.entry-item.is) (all-at (WellFormedEntry c.args.text.now) c.args.entries.now c.loop-entry.entry-index c.entry-item.result c.requires.1.1 c.loop-entry-test.true)).value)

pub measure_terms-measure_tree-requires-in-loop-term : goal.measure_terms-measure_tree-requires-in-loop-term
measure_terms-measure_tree-requires-in-loop-term t c = (search (rules, the_lemmas), (subst (WellFormedTerm c.args.text.now) (sym c.term-item.is) (all-at (WellFormedTerm c.args.text.now) c.as_slice-terms.result.now c.loop-term.term-index c.term-item.result (subst (AllByRecursion (WellFormedTerm c.args.text.now)) (sym c.as_slice-terms.ensures) c.requires.1.1.1) c.loop-term-test.true)).operand)

pub measure_tree-measure_number-requires : goal.measure_tree-measure_number-requires
measure_tree-measure_number-requires t c = of-Number c.args.text.now c.args.tree.now c.in-Number.token c.in-Number.is c.requires.1.1

pub measure_behind_minus-measure_negated_number-requires : goal.measure_behind_minus-measure_negated_number-requires
measure_behind_minus-measure_negated_number-requires t c = of-Number c.args.text.now c.args.tree.now c.in-Number.token c.in-Number.is c.requires.1.1

pub measure_tree-returns-in-Parentheses : goal.measure_tree-returns-in-Parentheses
measure_tree-returns-in-Parentheses t c = subst (λ y. IfOk c.measure_tree.result (λ j. j ≡ y)) (ap (measured c.args.text.now) c.deref.ensures ∙ sym (measured-Parentheses c.args.text.now c.in-Parentheses.inner) ∙ ap (measured c.args.text.now) (sym c.in-Parentheses.is)) c.measure_tree.ensures

pub measure_tree-returns-in-Minus : goal.measure_tree-returns-in-Minus
measure_tree-returns-in-Minus t c = subst (λ y. IfOk c.measure_behind_minus.result (λ j. j ≡ y)) (ap (measured_negated c.args.text.now) c.deref-in-Minus.ensures ∙ sym (measured-Minus c.args.text.now c.in-Minus.inner) ∙ ap (measured c.args.text.now) (sym c.in-Minus.is)) c.measure_behind_minus.ensures

pub measure_all-loop-tree-preserved : goal.measure_all-loop-tree-preserved
measure_all-loop-tree-preserved t c = stepped (fold (λ j x. side_by_side j (measured c.args.text.now x))) (λ j x. side_by_side j (measured c.args.text.now x)) (λ j x xs. refl) c.args.trees.now c.loop-tree.tree-index c.tree-item.result c.loop-tree.row c.side_by_side-row.result c.tree-item.is c.loop-tree-test.true (c.side_by_side-row.ensures ∙ ap (side_by_side c.loop-tree.row) c.in_ok-measure_tree.ensures) ∙ c.loop-tree.invariant

pub measure_entries-loop-entry-preserved : goal.measure_entries-loop-entry-preserved
measure_entries-loop-entry-preserved t c = stepped (fold (measured_entry c.args.text.now)) (measured_entry c.args.text.now) (λ j x xs. refl) c.args.entries.now c.loop-entry.entry-index c.entry-item.result c.loop-entry.row c.side_by_side-row.result c.entry-item.is c.loop-entry-test.true (c.side_by_side-row.ensures ∙ ap (side_by_side c.loop-entry.row) c.in_ok-measure_tree.ensures) ∙ c.loop-entry.invariant

pub measure_all-returns : goal.measure_all-returns
measure_all-returns t c = sym (at_drop_all (fold (λ j x. side_by_side j (measured c.args.text.now x)) c.loop-tree.row) c.args.trees.now c.loop-tree.tree-index c.loop-tree-test.false) ∙ c.loop-tree.invariant

pub measure_entries-returns : goal.measure_entries-returns
measure_entries-returns t c = sym (at_drop_all (fold (measured_entry c.args.text.now) c.loop-entry.row) c.args.entries.now c.loop-entry.entry-index c.loop-entry-test.false) ∙ c.loop-entry.invariant

pub measure_chain-returns : goal.measure_chain-returns
measure_chain-returns t c =
    sym (at_drop_all (measured_chain c.args.text.now c.loop-tree.left) c.as_slice-trees.result.now c.loop-tree.tree-index c.loop-tree-test.false) ∙ c.loop-tree.invariant ∙ ap (measured_chain c.args.text.now (measured c.args.text.now c.args.first.now)) c.as_slice-trees.ensures

pub measure_terms-returns : goal.measure_terms-returns
measure_terms-returns t c =
    sym (at_drop_all (fold (measured_term c.args.text.now) c.loop-term.left) c.as_slice-terms.result.now c.loop-term.term-index c.loop-term-test.false) ∙ c.loop-term.invariant ∙ ap (fold (measured_term c.args.text.now) (measured c.args.text.now c.args.first.now)) c.as_slice-terms.ensures

pub measure_accesses-returns : goal.measure_accesses-returns
measure_accesses-returns t c =
    sym (at_drop_all (fold (measured_access c.args.text.now) c.loop-access.left) c.as_slice-accesses.result.now c.loop-access.access-index c.loop-access-test.false) ∙ c.loop-access.invariant ∙ ap (fold (measured_access c.args.text.now) (measured c.args.text.now c.args.receiver.now)) c.as_slice-accesses.ensures

pub measure_access-returns-in-Field : goal.measure_access-returns-in-Field
measure_access-returns-in-Field t c = c.node_measure.ensures ∙ ap (measured_access c.args.text.now c.args.receiver) (sym c.in-Field.is)

pub measure_tree-measure_both-requires : goal.measure_tree-measure_both-requires
measure_tree-measure_both-requires t c = (search (rules, the_lemmas), of-Compare c.args.text.now c.args.tree.now c.in-Compare.left c.in-Compare.operator c.in-Compare.right c.in-Compare.is c.requires.1.1)

pub measure_tree-measure_both-requires-in-IsIn : goal.measure_tree-measure_both-requires-in-IsIn
measure_tree-measure_both-requires-in-IsIn t c = let parts = of-IsIn c.args.text.now c.args.tree.now c.in-IsIn.inner c.in-IsIn.field-1 c.in-IsIn.outer c.in-IsIn.is c.requires.1.1 in (search (rules, the_lemmas), (parts.0, parts.1.1))

pub measure_both-measure_tree-requires : goal.measure_both-measure_tree-requires
measure_both-measure_tree-requires t c = (search (rules, the_lemmas), subst (WellFormed c.args.text.now) (sym c.deref.ensures) c.requires.1.1.0)

pub measure_both-measure_tree-requires-2 : goal.measure_both-measure_tree-requires-2
measure_both-measure_tree-requires-2 t c = (search (rules, the_lemmas), subst (WellFormed c.args.text.now) (sym c.deref-2.ensures) c.requires.1.1.1)

pub measure_both-returns : goal.measure_both-returns
measure_both-returns t c =
    ap (λ j. (j, c.in_ok-second.second)) (c.in_ok-first.ensures ∙ ap (measured c.args.text.now) c.deref.ensures) ∙ ap (λ j. (measured c.args.text.now c.args.left.now, j)) (c.in_ok-second.ensures ∙ ap (measured c.args.text.now) c.deref-2.ensures)

pub measure_chain-measure_tree-requires : goal.measure_chain-measure_tree-requires
measure_chain-measure_tree-requires t c = (search (rules, the_lemmas), subst (WellFormed c.args.text.now) (sym c.deref.ensures) c.requires.1.1.0)

pub measure_terms-measure_tree-requires : goal.measure_terms-measure_tree-requires
measure_terms-measure_tree-requires t c = (search (rules, the_lemmas), subst (WellFormed c.args.text.now) (sym c.deref.ensures) c.requires.1.1.0)

pub measure_accesses-measure_tree-requires : goal.measure_accesses-measure_tree-requires
measure_accesses-measure_tree-requires t c = (search (rules, the_lemmas), subst (WellFormed c.args.text.now) (sym c.deref.ensures) c.requires.1.1.0)
