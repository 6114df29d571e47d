use Rattle.std.proofs.Common.{rules, refl, ◌≡◌, ◌∙◌, ◌+◌, ◌++◌, ◌∷◌, [], ap, sym, subst, ℕ, List, map, take, IfOk}
use Rattle.std.proofs.lemmas.List.{at_drop_all}
use Rattle.std.specs.List.{AllByRecursion, fold}
use Rattle.grammar_syntax.specs.declared.tree.Access.{Access}
use Rattle.grammar_syntax.specs.declared.tree.RecordEntry.{RecordEntry}
use Rattle.grammar_syntax.specs.declared.tree.Term.{Term}
use Rattle.grammar_syntax.specs.declared.tree.ExprTree.{ExprTree, the_lemmas}
use Rattle.grammar_core.specs.declared.operator.Unary.TheVariants as unary
use Rattle.grammar_core.specs.declared.operator.Binary.TheVariants as binary
use Rattle.grammar_core.specs.declared.expr.Expr.{Expr}
use Rattle.grammar_core.specs.declared.expr.Named.{Named}
use Rattle.grammar_core.specs.declared.expr.Expr.TheVariants as core
use Rattle.grammar_desugaring.specs.Strings.{pattern_of}
use Rattle.grammar_desugaring.specs.Meaning.{path_name, name_of, sign_of}
use Rattle.grammar_desugaring.specs.Core.{core_of, negated, field, in_entry, in_term, in_access, added, accessed, joined_by}
use Rattle.grammar_desugaring.specs.Core.{compared, called, method_called, function}
use Rattle.grammar_core.specs.Operators.{method_of}
use Rattle.grammar_desugaring.specs.declared.forms.Chain.{Chain}
use Rattle.grammar_syntax.specs.Lexing.{spelling_of}
use Rattle.grammar_desugaring.specs.inner.WellFormed.{WellFormed, AllWellFormed, WellFormedEntry, WellFormedTerm}
use Rattle.grammar_desugaring.specs.inner.WellFormed.{WellFormedAccess}
use Rattle.grammar_desugaring.specs.inner.Giving.{Gave}
use Rattle.grammar_desugaring.proofs.Lists.{all-at, map_map, stepped, taken}
use Rattle.grammar_desugaring.proofs.Gaving.{given, one, two, three}
use Rattle.grammar_desugaring.proofs.PartsOf.{of-Number, of-Text, of-Uid, of-Call, of-Parentheses, of-Not, of-Minus, of-Set}
use Rattle.grammar_desugaring.proofs.PartsOf.{of-Record, of-Member, of-Product, of-Sum, of-Compare, of-Has, of-Like, of-Is}
use Rattle.grammar_desugaring.proofs.PartsOf.{of-IsIn, of-And, of-Or, of-If}
use Rattle.grammar_desugaring.proofs.Cores.{core-Boolean, core-Number, core-Text, core-Variable, core-Uid, core-Call}
use Rattle.grammar_desugaring.proofs.Cores.{core-Parentheses, core-Minus, core-Set, core-Record, core-Member, core-Not}
use Rattle.grammar_desugaring.proofs.Cores.{core-Product, core-Sum, core-Compare, core-Has, core-Like, core-Is, core-IsIn}
use Rattle.grammar_desugaring.proofs.Cores.{core-And, core-Or, core-If, negated-Number, negated-other}
use Rattle.grammar_desugaring.proofs.build.+build.Goals as goal

abbrev a_field : List ℕ → Expr → Named Expr
a_field n e = record { name = n; value = e }

abbrev chained : List ℕ → Chain → Expr → List ExprTree → Expr
chained text by e xs = fold (joined_by by) e (map (core_of text) xs)

abbrev summed : List ℕ → Expr → List (Term ExprTree) → Expr
summed text e xs = fold added e (map (in_term (core_of text)) xs)

abbrev reached : List ℕ → Expr → List (Access (List ExprTree)) → Expr
reached text e xs = fold (accessed text) e (map (in_access (core_of text)) xs)

pub build_all-loop-tree-preserved : goal.build_all-loop-tree-preserved
build_all-loop-tree-preserved t c =
    taken (core_of c.args.text.now) c.args.trees.now c.loop-tree.tree-index c.tree-item.result c.loop-tree.row.items c.add.new.row.items (core_of c.args.text.now c.tree-item.result) c.tree-item.is c.loop-tree-test.true c.loop-tree.invariant refl
    (given (λ x. c.add.new.row.items ≡ c.loop-tree.row.items ++ x ∷ []) (core_of c.args.text.now c.tree-item.result) c.build_tree.result c.build_tree.ensures c.in_ok-add.ensures)

pub build_chain-loop-tree-preserved : goal.build_chain-loop-tree-preserved
build_chain-loop-tree-preserved t c =
    stepped (chained c.args.text.now c.args.chain) (λ e x. joined_by c.args.chain e (core_of c.args.text.now x)) (λ e x xs. refl) c.as_slice-trees.result.now c.loop-tree.tree-index c.tree-item.result c.loop-tree.left c.in_ok-left-2.left c.tree-item.is c.loop-tree-test.true
    (given (λ b. c.in_ok-left-2.left ≡ joined_by c.args.chain c.loop-tree.left b) (core_of c.args.text.now c.tree-item.result) c.build_tree-in-loop-tree.result c.build_tree-in-loop-tree.ensures c.in_ok-left-2.ensures) ∙ c.loop-tree.invariant

pub build_terms-loop-term-preserved : goal.build_terms-loop-term-preserved
build_terms-loop-term-preserved t c =
    stepped (summed c.args.text.now) (λ e x. added e (in_term (core_of c.args.text.now) x)) (λ e x xs. refl) c.as_slice-terms.result.now c.loop-term.term-index c.term-item.result c.loop-term.left c.in_ok-left-2.left c.term-item.is c.loop-term-test.true
    (given (λ b. c.in_ok-left-2.left ≡ core.Binary (sign_of c.term-item.result.sign) c.loop-term.left b) (core_of c.args.text.now c.term-item.result.operand) c.build_tree-right.result c.build_tree-right.ensures c.in_ok-left-2.ensures) ∙ c.loop-term.invariant

pub build_accesses-loop-access-preserved : goal.build_accesses-loop-access-preserved
build_accesses-loop-access-preserved t c =
    stepped (reached c.args.text.now) (λ e x. accessed c.args.text.now e (in_access (core_of c.args.text.now) x)) (λ e x xs. refl) c.as_slice-accesses.result.now c.loop-access.access-index c.access-item.result c.loop-access.left c.in_ok-left-2.left c.access-item.is c.loop-access-test.true
    (c.in_ok-left-2.ensures) ∙ c.loop-access.invariant

pub build_tree-build_all-requires : goal.build_tree-build_all-requires
build_tree-build_all-requires t c = (search (rules, the_lemmas), subst (AllWellFormed c.args.text.now) (sym c.as_slice.ensures) (of-Call c.args.text.now c.args.tree.now c.in-Call.path c.in-Call.arguments c.in-Call.is c.requires.1.1).1)

pub build_tree-function_at-requires : goal.build_tree-function_at-requires
build_tree-function_at-requires t c = (of-Call c.args.text.now c.args.tree.now c.in-Call.path c.in-Call.arguments c.in-Call.is c.requires.1.1).0

pub build_tree-build_all-requires-in-Set : goal.build_tree-build_all-requires-in-Set
build_tree-build_all-requires-in-Set t c = (search (rules, the_lemmas), subst (AllWellFormed c.args.text.now) (sym c.as_slice-in-Set.ensures) (of-Set c.args.text.now c.args.tree.now c.in-Set.members c.in-Set.is c.requires.1.1))

pub build_tree-build_entries-requires : goal.build_tree-build_entries-requires
build_tree-build_entries-requires t c = (search (rules, the_lemmas), subst (AllByRecursion (WellFormedEntry c.args.text.now)) (sym c.as_slice-in-Record.ensures) (of-Record c.args.text.now c.args.tree.now c.in-Record.entries c.in-Record.is c.requires.1.1))

pub build_tree-build_accesses-requires : goal.build_tree-build_accesses-requires
build_tree-build_accesses-requires t c = (search (rules, the_lemmas), of-Member c.args.text.now c.args.tree.now c.in-Member.inner c.in-Member.accesses c.in-Member.is c.requires.1.1)

pub build_tree-build_chain-requires : goal.build_tree-build_chain-requires
build_tree-build_chain-requires t c = (search (rules, the_lemmas), of-Product c.args.text.now c.args.tree.now c.in-Product.inner c.in-Product.more c.in-Product.is c.requires.1.1)

pub build_tree-build_terms-requires : goal.build_tree-build_terms-requires
build_tree-build_terms-requires t c = (search (rules, the_lemmas), of-Sum c.args.text.now c.args.tree.now c.in-Sum.inner c.in-Sum.terms c.in-Sum.is c.requires.1.1)

pub build_tree-build_tree-requires-in-Has : goal.build_tree-build_tree-requires-in-Has
build_tree-build_tree-requires-in-Has t c = (search (rules, the_lemmas), subst (WellFormed c.args.text.now) (sym c.deref-in-Has.ensures) (of-Has c.args.text.now c.args.tree.now c.in-Has.inner c.in-Has.key c.in-Has.is c.requires.1.1).0)

pub build_tree-build_tree-requires-in-Like : goal.build_tree-build_tree-requires-in-Like
build_tree-build_tree-requires-in-Like t c = (search (rules, the_lemmas), subst (WellFormed c.args.text.now) (sym c.deref-in-Like.ensures) (of-Like c.args.text.now c.args.tree.now c.in-Like.inner c.in-Like.token c.in-Like.is c.requires.1.1).0)

pub build_tree-build_tree-requires-in-Is : goal.build_tree-build_tree-requires-in-Is
build_tree-build_tree-requires-in-Is t c = (search (rules, the_lemmas), subst (WellFormed c.args.text.now) (sym c.deref-in-Is.ensures) (of-Is c.args.text.now c.args.tree.now c.in-Is.inner c.in-Is.path c.in-Is.is c.requires.1.1).0)

pub build_tree-uid_literal-requires : goal.build_tree-uid_literal-requires
build_tree-uid_literal-requires t c = (of-Uid c.args.text.now c.args.tree.now c.in-Uid.uid c.in-Uid.is c.requires.1.1)

pub build_tree-has-requires : goal.build_tree-has-requires
build_tree-has-requires t c = (of-Has c.args.text.now c.args.tree.now c.in-Has.inner c.in-Has.key c.in-Has.is c.requires.1.1).1

pub build_tree-like-requires : goal.build_tree-like-requires
build_tree-like-requires t c = (of-Like c.args.text.now c.args.tree.now c.in-Like.inner c.in-Like.token c.in-Like.is c.requires.1.1).1

pub build_tree-is-requires : goal.build_tree-is-requires
build_tree-is-requires t c = (of-Is c.args.text.now c.args.tree.now c.in-Is.inner c.in-Is.path c.in-Is.is c.requires.1.1).1

pub build_tree-is_in-requires : goal.build_tree-is_in-requires
build_tree-is_in-requires t c = (of-IsIn c.args.text.now c.args.tree.now c.in-IsIn.inner c.in-IsIn.path c.in-IsIn.outer c.in-IsIn.is c.requires.1.1).1.0

pub build_tree-build_chain-requires-in-And : goal.build_tree-build_chain-requires-in-And
build_tree-build_chain-requires-in-And t c = (search (rules, the_lemmas), of-And c.args.text.now c.args.tree.now c.in-And.inner c.in-And.more c.in-And.is c.requires.1.1)

pub build_tree-build_chain-requires-in-Or : goal.build_tree-build_chain-requires-in-Or
build_tree-build_chain-requires-in-Or t c = (search (rules, the_lemmas), of-Or c.args.text.now c.args.tree.now c.in-Or.inner c.in-Or.more c.in-Or.is c.requires.1.1)

pub build_tree-build_tree-first-requires : goal.build_tree-build_tree-first-requires
build_tree-build_tree-first-requires t c = (search (rules, the_lemmas), subst (WellFormed c.args.text.now) (sym c.deref-in-If.ensures) (of-If c.args.text.now c.args.tree.now c.in-If.test c.in-If.consequent c.in-If.alternative c.in-If.is c.requires.1.1).0)

pub build_tree-build_tree-second-requires : goal.build_tree-build_tree-second-requires
build_tree-build_tree-second-requires t c = (search (rules, the_lemmas), subst (WellFormed c.args.text.now) (sym c.deref-in-If-2.ensures) (of-If c.args.text.now c.args.tree.now c.in-If.test c.in-If.consequent c.in-If.alternative c.in-If.is c.requires.1.1).1.0)

pub build_tree-build_tree-third-requires : goal.build_tree-build_tree-third-requires
build_tree-build_tree-third-requires t c = (search (rules, the_lemmas), subst (WellFormed c.args.text.now) (sym c.deref-in-If-3.ensures) (of-If c.args.text.now c.args.tree.now c.in-If.test c.in-If.consequent c.in-If.alternative c.in-If.is c.requires.1.1).1.1)

pub build_access-build_all-requires : goal.build_access-build_all-requires
build_access-build_all-requires t c = (search (rules, the_lemmas), subst (AllWellFormed c.args.text.now) (sym c.as_slice.ensures) (subst (WellFormedAccess c.args.text.now) c.in-Method.is c.requires.1.1).1)

pub build_accesses-build_access-requires : goal.build_accesses-build_access-requires
build_accesses-build_access-requires t c = (search (rules, the_lemmas), subst (WellFormedAccess c.args.text.now) (sym c.access-item.is) (all-at (WellFormedAccess c.args.text.now) c.as_slice-accesses.result.now c.loop-access.access-index c.access-item.result (subst (AllByRecursion (WellFormedAccess c.args.text.now)) (sym c.as_slice-accesses.ensures) c.requires.1.1.1) c.loop-access-test.true))

pub build_tree-returns-in-Boolean : goal.build_tree-returns-in-Boolean
build_tree-returns-in-Boolean t c = sym (core-Boolean c.args.text.now c.in-Boolean.value) ∙ ap (core_of c.args.text.now) (sym c.in-Boolean.is)

pub build_tree-returns-in-Number : goal.build_tree-returns-in-Number
build_tree-returns-in-Number t c = c.number_literal.ensures ∙ (sym (core-Number c.args.text.now c.in-Number.token) ∙ ap (core_of c.args.text.now) (sym c.in-Number.is))

pub build_tree-returns-in-Variable : goal.build_tree-returns-in-Variable
build_tree-returns-in-Variable t c = c.variable.ensures ∙ (sym (core-Variable c.args.text.now c.in-Variable.word) ∙ ap (core_of c.args.text.now) (sym c.in-Variable.is))

pub build_tree-returns-in-Text : goal.build_tree-returns-in-Text
build_tree-returns-in-Text t c = subst (λ y. IfOk c.text_literal.result (λ e. e ≡ y)) (sym (core-Text c.args.text.now c.in-Text.token) ∙ ap (core_of c.args.text.now) (sym c.in-Text.is)) c.text_literal.ensures

pub build_tree-returns-in-Uid : goal.build_tree-returns-in-Uid
build_tree-returns-in-Uid t c = subst (λ y. IfOk c.uid_literal.result (λ e. e ≡ y)) (sym (core-Uid c.args.text.now c.in-Uid.uid) ∙ ap (core_of c.args.text.now) (sym c.in-Uid.is)) c.uid_literal.ensures

pub build_tree-returns-in-Call : goal.build_tree-returns-in-Call
build_tree-returns-in-Call t c =
    one (called (function c.args.text.now c.in-Call.path)) (map (core_of c.args.text.now) c.in-Call.arguments) (core_of c.args.text.now c.args.tree.now) c.build_all.result c.call.result (subst (λ ys. IfOk c.build_all.result (λ e. e ≡ map (core_of c.args.text.now) ys)) c.as_slice.ensures c.build_all.ensures)
    (subst (λ f. IfOk c.call.result (λ e. Gave c.build_all.result (λ es. e ≡ called f es))) c.function_at.ensures c.call.ensures) (sym (core-Call c.args.text.now c.in-Call.path c.in-Call.arguments) ∙ ap (core_of c.args.text.now) (sym c.in-Call.is))

pub build_tree-returns-in_ok-build_all-in-Set : goal.build_tree-returns-in_ok-build_all-in-Set
build_tree-returns-in_ok-build_all-in-Set t c =
    ap core.Set (c.in_ok-build_all-in-Set.ensures ∙ ap (map (core_of c.args.text.now)) c.as_slice-in-Set.ensures) ∙ sym (core-Set c.args.text.now c.in-Set.members) ∙ ap (core_of c.args.text.now) (sym c.in-Set.is)

pub build_tree-returns-in_ok-build_entries-in-Record : goal.build_tree-returns-in_ok-build_entries-in-Record
build_tree-returns-in_ok-build_entries-in-Record t c =
    ap core.Record (c.in_ok-build_entries-in-Record.ensures ∙ ap (λ (es : List (RecordEntry ExprTree)). map (field c.args.text.now) (map (in_entry (core_of c.args.text.now)) es)) c.as_slice-in-Record.ensures) ∙ sym (core-Record c.args.text.now c.in-Record.entries) ∙ ap (core_of c.args.text.now) (sym c.in-Record.is)

pub build_tree-returns-in-Not : goal.build_tree-returns-in-Not
build_tree-returns-in-Not t c = one (core.Unary unary.Not) (core_of c.args.text.now c.in-Not.inner) (core_of c.args.text.now c.args.tree.now) c.build_tree-in-Not.result c.apply.result (subst (λ y. IfOk c.build_tree-in-Not.result (λ e. e ≡ core_of c.args.text.now y)) c.deref-in-Not.ensures c.build_tree-in-Not.ensures) c.apply.ensures (sym (core-Not c.args.text.now c.in-Not.inner) ∙ ap (core_of c.args.text.now) (sym c.in-Not.is))

pub build_tree-returns-in-Has : goal.build_tree-returns-in-Has
build_tree-returns-in-Has t c = one (λ e. core.Has e (name_of c.args.text.now c.in-Has.key)) (core_of c.args.text.now c.in-Has.inner) (core_of c.args.text.now c.args.tree.now) c.build_tree-in-Has.result c.has.result (subst (λ y. IfOk c.build_tree-in-Has.result (λ e. e ≡ core_of c.args.text.now y)) c.deref-in-Has.ensures c.build_tree-in-Has.ensures) c.has.ensures (sym (core-Has c.args.text.now c.in-Has.inner c.in-Has.key) ∙ ap (core_of c.args.text.now) (sym c.in-Has.is))

pub build_tree-returns-in-Like : goal.build_tree-returns-in-Like
build_tree-returns-in-Like t c = one (core.Unary (unary.Like (pattern_of (spelling_of c.args.text.now c.in-Like.token)))) (core_of c.args.text.now c.in-Like.inner) (core_of c.args.text.now c.args.tree.now) c.build_tree-in-Like.result c.like.result (subst (λ y. IfOk c.build_tree-in-Like.result (λ e. e ≡ core_of c.args.text.now y)) c.deref-in-Like.ensures c.build_tree-in-Like.ensures) c.like.ensures (sym (core-Like c.args.text.now c.in-Like.inner c.in-Like.token) ∙ ap (core_of c.args.text.now) (sym c.in-Like.is))

pub build_tree-returns-in-Is : goal.build_tree-returns-in-Is
build_tree-returns-in-Is t c = one (core.Unary (unary.Is (path_name c.args.text.now c.in-Is.path))) (core_of c.args.text.now c.in-Is.inner) (core_of c.args.text.now c.args.tree.now) c.build_tree-in-Is.result c.is.result (subst (λ y. IfOk c.build_tree-in-Is.result (λ e. e ≡ core_of c.args.text.now y)) c.deref-in-Is.ensures c.build_tree-in-Is.ensures) c.is.ensures (sym (core-Is c.args.text.now c.in-Is.inner c.in-Is.path) ∙ ap (core_of c.args.text.now) (sym c.in-Is.is))

pub build_tree-returns-in-Member : goal.build_tree-returns-in-Member
build_tree-returns-in-Member t c = subst (λ y. IfOk c.build_accesses.result (λ e. e ≡ y)) (sym (core-Member c.args.text.now c.in-Member.inner c.in-Member.accesses) ∙ ap (core_of c.args.text.now) (sym c.in-Member.is)) c.build_accesses.ensures

pub build_tree-returns-in-Product : goal.build_tree-returns-in-Product
build_tree-returns-in-Product t c = subst (λ y. IfOk c.build_chain.result (λ e. e ≡ y)) (sym (core-Product c.args.text.now c.in-Product.inner c.in-Product.more) ∙ ap (core_of c.args.text.now) (sym c.in-Product.is)) c.build_chain.ensures

pub build_tree-returns-in-Sum : goal.build_tree-returns-in-Sum
build_tree-returns-in-Sum t c = subst (λ y. IfOk c.build_terms.result (λ e. e ≡ y)) (sym (core-Sum c.args.text.now c.in-Sum.inner c.in-Sum.terms) ∙ ap (core_of c.args.text.now) (sym c.in-Sum.is)) c.build_terms.ensures

pub build_tree-returns-in-And : goal.build_tree-returns-in-And
build_tree-returns-in-And t c = subst (λ y. IfOk c.build_chain-in-And.result (λ e. e ≡ y)) (sym (core-And c.args.text.now c.in-And.inner c.in-And.more) ∙ ap (core_of c.args.text.now) (sym c.in-And.is)) c.build_chain-in-And.ensures

pub build_tree-returns-in-Or : goal.build_tree-returns-in-Or
build_tree-returns-in-Or t c = subst (λ y. IfOk c.build_chain-in-Or.result (λ e. e ≡ y)) (sym (core-Or c.args.text.now c.in-Or.inner c.in-Or.more) ∙ ap (core_of c.args.text.now) (sym c.in-Or.is)) c.build_chain-in-Or.ensures

pub build_tree-returns-in-Compare : goal.build_tree-returns-in-Compare
build_tree-returns-in-Compare t c =
    one (λ pair. compared c.in-Compare.operator pair.0 pair.1) (core_of c.args.text.now c.in-Compare.left, core_of c.args.text.now c.in-Compare.right) (core_of c.args.text.now c.args.tree.now) c.build_both.result c.compare.result
    c.build_both.ensures c.compare.ensures (sym (core-Compare c.args.text.now c.in-Compare.left c.in-Compare.operator c.in-Compare.right) ∙ ap (core_of c.args.text.now) (sym c.in-Compare.is))

pub build_tree-returns-in-IsIn : goal.build_tree-returns-in-IsIn
build_tree-returns-in-IsIn t c =
    one (λ pair. core.And (core.Unary (unary.Is (path_name c.args.text.now c.in-IsIn.path)) pair.0) (core.Binary binary.In pair.0 pair.1)) (core_of c.args.text.now c.in-IsIn.inner, core_of c.args.text.now c.in-IsIn.outer) (core_of c.args.text.now c.args.tree.now) c.build_both-in-IsIn.result c.is_in.result
    c.build_both-in-IsIn.ensures c.is_in.ensures (sym (core-IsIn c.args.text.now c.in-IsIn.inner c.in-IsIn.path c.in-IsIn.outer) ∙ ap (core_of c.args.text.now) (sym c.in-IsIn.is))

pub build_tree-returns-in-If : goal.build_tree-returns-in-If
build_tree-returns-in-If t c =
    three core.If (core_of c.args.text.now c.in-If.test) (core_of c.args.text.now c.in-If.consequent) (core_of c.args.text.now c.in-If.alternative) (core_of c.args.text.now c.args.tree.now) c.build_tree-first.result c.build_tree-second.result c.build_tree-third.result c.if_then_else.result
    (subst (λ y. IfOk c.build_tree-first.result (λ e. e ≡ core_of c.args.text.now y)) c.deref-in-If.ensures c.build_tree-first.ensures) (subst (λ y. IfOk c.build_tree-second.result (λ e. e ≡ core_of c.args.text.now y)) c.deref-in-If-2.ensures c.build_tree-second.ensures) (subst (λ y. IfOk c.build_tree-third.result (λ e. e ≡ core_of c.args.text.now y)) c.deref-in-If-3.ensures c.build_tree-third.ensures) c.if_then_else.ensures (sym (core-If c.args.text.now c.in-If.test c.in-If.consequent c.in-If.alternative) ∙ ap (core_of c.args.text.now) (sym c.in-If.is))

pub build_behind_minus-returns-in-Number : goal.build_behind_minus-returns-in-Number
build_behind_minus-returns-in-Number t c = c.negated_literal.ensures ∙ sym (negated-Number c.args.text.now c.in-Number.token) ∙ ap (negated c.args.text.now) (sym c.in-Number.is)

pub build_behind_minus-returns-in_default : goal.build_behind_minus-returns-in_default
build_behind_minus-returns-in_default t c = one (core.Unary unary.Negate) (core_of c.args.text.now c.args.tree.now) (negated c.args.text.now c.args.tree.now) c.build_tree.result c.apply.result c.build_tree.ensures c.apply.ensures (sym (negated-other c.args.text.now c.args.tree.now c.in_default.not-Number))

pub build_entries-loop-entry-preserved : goal.build_entries-loop-entry-preserved
build_entries-loop-entry-preserved t c =
    let made : RecordEntry ExprTree → Named Expr = λ entry. field c.args.text.now (in_entry (core_of c.args.text.now) entry) in
    let item = two (λ n e. a_field n e) (name_of c.args.text.now c.entry-item.result.key) (core_of c.args.text.now c.entry-item.result.value) (made c.entry-item.result) c.name-key.result c.build_tree.result c.named.result c.name-key.ensures c.build_tree.ensures c.named.ensures refl in
    taken made c.args.entries.now c.loop-entry.entry-index c.entry-item.result c.loop-entry.row.items c.add.new.row.items (made c.entry-item.result) c.entry-item.is c.loop-entry-test.true
    (c.loop-entry.invariant ∙ map_map (field c.args.text.now) (in_entry (core_of c.args.text.now)) (take c.loop-entry.entry-index c.args.entries.now)) refl
    (given (λ x. c.add.new.row.items ≡ c.loop-entry.row.items ++ x ∷ []) (made c.entry-item.result) c.named.result item c.in_ok-add.ensures)
    ∙ sym (map_map (field c.args.text.now) (in_entry (core_of c.args.text.now)) (take (c.loop-entry.entry-index + 1) c.args.entries.now))

pub build_access-returns-in-Field : goal.build_access-returns-in-Field
build_access-returns-in-Field t c =
    subst (λ a. IfOk c.field.result (λ e. e ≡ accessed c.args.text.now c.args.receiver (in_access (core_of c.args.text.now) a))) (sym c.in-Field.is) c.field.ensures

pub build_access-returns-in-Method : goal.build_access-returns-in-Method
build_access-returns-in-Method t c =
    one (λ es. method_called (method_of (spelling_of c.args.text.now c.in-Method.token)) c.args.receiver es) (map (core_of c.args.text.now) c.in-Method.arguments) (accessed c.args.text.now c.args.receiver (in_access (core_of c.args.text.now) c.args.access.now)) c.build_all.result c.call_with_row.result
    (subst (λ ys. IfOk c.build_all.result (λ e. e ≡ map (core_of c.args.text.now) ys)) c.as_slice.ensures c.build_all.ensures)
    (subst (λ m. IfOk c.call_with_row.result (λ e. Gave c.build_all.result (λ es. e ≡ method_called m c.args.receiver es))) (c.method_named-method.ensures ∙ ap method_of c.spelling.ensures.is) c.call_with_row.ensures)
    (ap (λ a. accessed c.args.text.now c.args.receiver (in_access (core_of c.args.text.now) a)) (sym c.in-Method.is))

pub build_tree-build_tree-requires : goal.build_tree-build_tree-requires
build_tree-build_tree-requires t c = (search (rules, the_lemmas), subst (WellFormed c.args.text.now) (sym c.deref.ensures) (of-Parentheses c.args.text.now c.args.tree.now c.in-Parentheses.inner c.in-Parentheses.is c.requires.1.1))

pub build_tree-build_tree-requires-in-Not : goal.build_tree-build_tree-requires-in-Not
build_tree-build_tree-requires-in-Not t c = (search (rules, the_lemmas), subst (WellFormed c.args.text.now) (sym c.deref-in-Not.ensures) (of-Not c.args.text.now c.args.tree.now c.in-Not.inner c.in-Not.is c.requires.1.1))

pub build_tree-build_behind_minus-requires : goal.build_tree-build_behind_minus-requires
build_tree-build_behind_minus-requires t c = (search (rules, the_lemmas), subst (WellFormed c.args.text.now) (sym c.deref-in-Minus.ensures) (of-Minus c.args.text.now c.args.tree.now c.in-Minus.inner c.in-Minus.is c.requires.1.1))

pub build_behind_minus-build_tree-requires : goal.build_behind_minus-build_tree-requires
build_behind_minus-build_tree-requires t c = (search (rules, the_lemmas), c.requires.1.1)

pub build_all-build_tree-requires : goal.build_all-build_tree-requires
build_all-build_tree-requires t c = (search (rules, the_lemmas), subst (WellFormed c.args.text.now) (sym c.tree-item.is) (all-at (WellFormed c.args.text.now) c.args.trees.now c.loop-tree.tree-index c.tree-item.result c.requires.1.1 c.loop-tree-test.true))

pub build_chain-build_tree-requires-in-loop-tree : goal.build_chain-build_tree-requires-in-loop-tree
build_chain-build_tree-requires-in-loop-tree t c = (search (rules, the_lemmas), subst (WellFormed c.args.text.now) (sym c.tree-item.is) (all-at (WellFormed c.args.text.now) c.as_slice-trees.result.now c.loop-tree.tree-index c.tree-item.result (subst (AllByRecursion (WellFormed c.args.text.now)) (sym c.as_slice-trees.ensures) c.requires.1.1.1) c.loop-tree-test.true))

pub build_entries-build_tree-requires : goal.build_entries-build_tree-requires
build_entries-build_tree-requires t c = (search (rules, the_lemmas), (subst (WellFormedEntry c.args.text.now) (sym c.entry-item.is) (all-at (WellFormedEntry c.args.text.now) c.args.entries.now c.loop-entry.entry-index c.entry-item.result c.requires.1.1 c.loop-entry-test.true)).value)

pub build_terms-build_tree-right-requires : goal.build_terms-build_tree-right-requires
build_terms-build_tree-right-requires t c = (search (rules, the_lemmas), (subst (WellFormedTerm c.args.text.now) (sym c.term-item.is) (all-at (WellFormedTerm c.args.text.now) c.as_slice-terms.result.now c.loop-term.term-index c.term-item.result (subst (AllByRecursion (WellFormedTerm c.args.text.now)) (sym c.as_slice-terms.ensures) c.requires.1.1.1) c.loop-term-test.true)).operand)

pub build_entries-name-key-requires : goal.build_entries-name-key-requires
build_entries-name-key-requires t c = (subst (WellFormedEntry c.args.text.now) (sym c.entry-item.is) (all-at (WellFormedEntry c.args.text.now) c.args.entries.now c.loop-entry.entry-index c.entry-item.result c.requires.1.1 c.loop-entry-test.true)).key

pub build_tree-number_literal-requires : goal.build_tree-number_literal-requires
build_tree-number_literal-requires t c = of-Number c.args.text.now c.args.tree.now c.in-Number.token c.in-Number.is c.requires.1.1

pub build_tree-text_literal-requires : goal.build_tree-text_literal-requires
build_tree-text_literal-requires t c = of-Text c.args.text.now c.args.tree.now c.in-Text.token c.in-Text.is c.requires.1.1

pub build_behind_minus-negated_literal-requires : goal.build_behind_minus-negated_literal-requires
build_behind_minus-negated_literal-requires t c = of-Number c.args.text.now c.args.tree.now c.in-Number.token c.in-Number.is c.requires.1.1

pub build_tree-returns-in-Parentheses : goal.build_tree-returns-in-Parentheses
build_tree-returns-in-Parentheses t c = subst (λ y. IfOk c.build_tree.result (λ e. e ≡ y)) (ap (core_of c.args.text.now) c.deref.ensures ∙ sym (core-Parentheses c.args.text.now c.in-Parentheses.inner) ∙ ap (core_of c.args.text.now) (sym c.in-Parentheses.is)) c.build_tree.ensures

pub build_tree-returns-in-Minus : goal.build_tree-returns-in-Minus
build_tree-returns-in-Minus t c = subst (λ y. IfOk c.build_behind_minus.result (λ e. e ≡ y)) (ap (negated c.args.text.now) c.deref-in-Minus.ensures ∙ sym (core-Minus c.args.text.now c.in-Minus.inner) ∙ ap (core_of c.args.text.now) (sym c.in-Minus.is)) c.build_behind_minus.ensures

pub build_chain-returns : goal.build_chain-returns
build_chain-returns t c =
    sym (at_drop_all (chained c.args.text.now c.args.chain c.loop-tree.left) c.as_slice-trees.result.now c.loop-tree.tree-index c.loop-tree-test.false) ∙ c.loop-tree.invariant ∙ ap (chained c.args.text.now c.args.chain (core_of c.args.text.now c.args.first.now)) c.as_slice-trees.ensures

pub build_terms-returns : goal.build_terms-returns
build_terms-returns t c =
    sym (at_drop_all (summed c.args.text.now c.loop-term.left) c.as_slice-terms.result.now c.loop-term.term-index c.loop-term-test.false) ∙ c.loop-term.invariant ∙ ap (summed c.args.text.now (core_of c.args.text.now c.args.first.now)) c.as_slice-terms.ensures

pub build_accesses-returns : goal.build_accesses-returns
build_accesses-returns t c =
    sym (at_drop_all (reached c.args.text.now c.loop-access.left) c.as_slice-accesses.result.now c.loop-access.access-index c.loop-access-test.false) ∙ c.loop-access.invariant ∙ ap (reached c.args.text.now (core_of c.args.text.now c.args.receiver.now)) c.as_slice-accesses.ensures

pub build_tree-build_both-requires : goal.build_tree-build_both-requires
build_tree-build_both-requires t c = (search (rules, the_lemmas), of-Compare c.args.text.now c.args.tree.now c.in-Compare.left c.in-Compare.operator c.in-Compare.right c.in-Compare.is c.requires.1.1)

pub build_tree-build_both-requires-in-IsIn : goal.build_tree-build_both-requires-in-IsIn
build_tree-build_both-requires-in-IsIn t c = let parts = of-IsIn c.args.text.now c.args.tree.now c.in-IsIn.inner c.in-IsIn.path c.in-IsIn.outer c.in-IsIn.is c.requires.1.1 in (search (rules, the_lemmas), (parts.0, parts.1.1))

pub build_both-build_tree-first-requires : goal.build_both-build_tree-first-requires
build_both-build_tree-first-requires t c = (search (rules, the_lemmas), subst (WellFormed c.args.text.now) (sym c.deref.ensures) c.requires.1.1.0)

pub build_both-build_tree-requires : goal.build_both-build_tree-requires
build_both-build_tree-requires t c = (search (rules, the_lemmas), subst (WellFormed c.args.text.now) (sym c.deref-2.ensures) c.requires.1.1.1)

pub build_both-returns : goal.build_both-returns
build_both-returns t c =
    two (λ a b. (a, b)) (core_of c.args.text.now c.args.left.now) (core_of c.args.text.now c.args.right.now) (core_of c.args.text.now c.args.left.now, core_of c.args.text.now c.args.right.now) c.build_tree-first.result c.build_tree.result c.both.result
    (subst (λ y. IfOk c.build_tree-first.result (λ e. e ≡ core_of c.args.text.now y)) c.deref.ensures c.build_tree-first.ensures) (subst (λ y. IfOk c.build_tree.result (λ e. e ≡ core_of c.args.text.now y)) c.deref-2.ensures c.build_tree.ensures) c.both.ensures refl

pub build_chain-build_tree-requires : goal.build_chain-build_tree-requires
build_chain-build_tree-requires t c = (search (rules, the_lemmas), subst (WellFormed c.args.text.now) (sym c.deref.ensures) c.requires.1.1.0)

pub build_terms-build_tree-requires : goal.build_terms-build_tree-requires
build_terms-build_tree-requires t c = (search (rules, the_lemmas), subst (WellFormed c.args.text.now) (sym c.deref.ensures) c.requires.1.1.0)

pub build_accesses-build_tree-requires : goal.build_accesses-build_tree-requires
build_accesses-build_tree-requires t c = (search (rules, the_lemmas), subst (WellFormed c.args.text.now) (sym c.deref.ensures) c.requires.1.1.0)
