use Rattle.std.proofs.Common.{[], List, map, take, Ok, refl, sym, subst, ap, ◌∙◌}
use Rattle.std.proofs.lemmas.Bool.{false≢true}
use Rattle.grammar_core.specs.declared.expr.Named.{Named}
use Rattle.grammar_core.specs.declared.operator.Unary.TheVariants.{Is}
use Rattle.grammar_core.specs.declared.expr.Expr.{Expr}
use Rattle.grammar_core.specs.declared.expr.Expr.TheVariants as form
use Rattle.typing.specs.Rows as rows
use Rattle.typing.specs.Typing as typing
use Rattle.typing.specs.Typing.{Types, TypesEach}
use Rattle.typing.specs.Faults as faults
use Rattle.type_checker.specs.Views.{static_view, boolean_view, typing_environment}
use Rattle.type_capabilities.specs.CapabilityList.{capabilities}
use Rattle.type_checker.proofs.Carrying.{typed_so, has_kind, faulty_so, plain_judged, moved, behind_moved, at_form}
use Rattle.type_checker.proofs.Carrying.{false_so, then_so, then_faulty}
use Rattle.typing.specs.Literals.{DecidedByLiterals, UndecidedByLiterals}
use Rattle.type_checker.specs.inner.Judged.{Judged, JudgedUnder, JudgedEach}
use Rattle.type_checker.proofs.AskedLemmas.{asked_so, behind_nothing}
use Rattle.type_checker.proofs.Each.{behind_judged, stands_at, stops_at, goes_on}
use Rattle.type_checker.proofs.Members.{none_yet, member_stops, member_more, member_again}
use Rattle.type_checker.proofs.Carrying.{then_only, then_both, else_only}
use Rattle.type_checker.proofs.judging.+judge.Goals as goal

pub second_operand-returns-in-Ok : goal.second_operand-returns-in-Ok
second_operand-returns-in-Ok level c = λ K a n h.
    let E = typing_environment c.args.env in
    let b = c.args.right.now in
    let before = c.args.known.now in
    let t = typed_so E K before a c.in-Ok.is h in
    c.binary_typed.ensures K _ a b n t.1 (moved E b _ _ t.0 (at_form E _ _ _ (sym c.deref.ensures) c.type_of-right.ensures))

pub second_operand-returns-in-Err : goal.second_operand-returns-in-Err
second_operand-returns-in-Err level c = λ K a n h m.
    let E = typing_environment c.args.env in
    faults.fault_in_operand (faults.of_binary c.args.operator a c.args.right.now n)
    (faults.fault_here (faulty_so E K c.args.known.now a c.in-Err.is h m))

pub second_called-returns-in-Ok : goal.second_called-returns-in-Ok
second_called-returns-in-Ok level c = λ K a h.
    let E = typing_environment c.args.env in
    let b = c.args.right.now in
    let before = c.args.known.now in
    let t = typed_so E K before a c.in-Ok.is h in
    c.call_typed.ensures E K _ a b t.1 (moved E b _ _ t.0 (at_form E _ _ _ (sym c.deref.ensures) c.type_of-right.ensures))

pub second_called-returns-in-Err : goal.second_called-returns-in-Err
second_called-returns-in-Err level c = λ K a h m.
    let E = typing_environment c.args.env in
    faults.fault_in_operand (faults.of_binary_call c.args.called a c.args.right.now)
    (faults.fault_here (faulty_so E K c.args.known.now a c.in-Err.is h m))

pub second_conjunct-returns-then-not-is_right_checked : goal.second_conjunct-returns-then-not-is_right_checked
second_conjunct-returns-then-not-is_right_checked level c = λ K a h.
    let E = typing_environment c.args.env in
    let b = c.args.right.now in
    let n = λ (m : rows.MayBeTrue (boolean_view c.in-Some.truth)). false≢true (sym c.if-not-is_right_checked.true ∙ c.is_right_checked.ensures.1 m) in
    let t = has_kind E K _ a c.in-Ok.is (c.in-Some.ensures ∙ false_so c.in-Some.truth n) h in
    plain_judged E K _ (form.And a b) c.plain.result (ap static_view c.plain.ensures.kind ∙ c.boolean.ensures) c.plain.ensures.gains t.0
    (typing.and_of_false a b t.1)

pub second_conjunct-returns-in-Some : goal.second_conjunct-returns-in-Some
second_conjunct-returns-in-Some level c = λ K a h.
    let E = typing_environment c.args.env in
    let b = c.args.right.now in
    let t = has_kind E K _ a c.in-Ok.is c.in-Some.ensures h in
    let m = c.is_right_checked.ensures.0 c.if-not-is_right_checked.false in
    c.and_typed.ensures E K _ _ a b t.1 m (behind_moved E b _ _ _ t.0 c.type_under_gained-right.ensures)

pub second_conjunct-returns-in-Ok : goal.second_conjunct-returns-in-Ok
second_conjunct-returns-in-Ok level c = λ K a h n.
    let E = typing_environment c.args.env in
    let t = typed_so E K c.args.known.now a c.in-Ok.is h in
    faults.left_of_and_no_boolean a c.args.right.now t.1 c.in-None.ensures

pub second_conjunct-returns : goal.second_conjunct-returns
second_conjunct-returns level c = λ K a h n.
    faults.fault_left_of_and a c.args.right.now (faulty_so (typing_environment c.args.env) K c.args.known.now a c.in-Err.is h n)

pub second_disjunct-returns-in-Some-True : goal.second_disjunct-returns-in-Some-True
second_disjunct-returns-in-Some-True level c = λ K a h.
    let E = typing_environment c.args.env in
    let b = c.args.right.now in
    let t = has_kind E K _ a c.in-Ok.is (c.in-Some-True.ensures ∙ ap boolean_view c.in-Some-True.field-0-is) h in
    plain_judged E K _ (form.Or a b) c.plain.result (ap static_view c.plain.ensures.kind ∙ c.boolean.ensures) c.plain.ensures.gains t.0
    (typing.or_of_true a b t.1)

pub second_disjunct-returns-in-Some-False : goal.second_disjunct-returns-in-Some-False
second_disjunct-returns-in-Some-False level c = λ K a h.
    let E = typing_environment c.args.env in
    let b = c.args.right.now in
    let t = has_kind E K _ a c.in-Ok.is (c.in-Some-False.ensures ∙ ap boolean_view c.in-Some-False.field-0-is) h in
    c.or_behind_false.ensures E K _ _ a b t.1 (moved E b _ _ t.0 (at_form E _ _ _ (sym c.deref.ensures) c.type_of-right.ensures))

pub second_disjunct-returns-in-Some-Either : goal.second_disjunct-returns-in-Some-Either
second_disjunct-returns-in-Some-Either level c = λ K a h.
    let E = typing_environment c.args.env in
    let b = c.args.right.now in
    let t = has_kind E K _ a c.in-Ok.is (c.in-Some-Either.ensures ∙ ap boolean_view c.in-Some-Either.field-0-is) h in
    c.or_typed.ensures E K _ a b t.1 (moved E b _ _ t.0 (at_form E _ _ _ (sym c.deref-in-Some-Either.ensures) c.type_of-right-in-Some-Either.ensures))

pub second_disjunct-returns-in-None : goal.second_disjunct-returns-in-None
second_disjunct-returns-in-None level c = λ K a h n.
    let E = typing_environment c.args.env in
    let t = typed_so E K c.args.known.now a c.in-Ok.is h in
    faults.left_of_or_no_boolean a c.args.right.now t.1 c.in-None.ensures

pub second_disjunct-returns-in-Err : goal.second_disjunct-returns-in-Err
second_disjunct-returns-in-Err level c = λ K a h n.
    faults.fault_left_of_or a c.args.right.now (faulty_so (typing_environment c.args.env) K c.args.known.now a c.in-Err.is h n)

pub type_then-returns-in-Some-True : goal.type_then-returns-in-Some-True
type_then-returns-in-Some-True level c = λ K a h.
    let E = typing_environment c.args.env in
    let b = c.args.consequent.now in
    let t = has_kind E K _ a c.in-Ok.is (c.in-Some-True.ensures ∙ ap boolean_view c.in-Some-True.field-0-is) h in
    then_only E K _ _ a b _ _ c.only.ensures t.1 (behind_moved E b _ _ _ t.0 c.type_under_gained.ensures)

pub type_then-returns-in-Some-Either : goal.type_then-returns-in-Some-Either
type_then-returns-in-Some-Either level c = λ K a h.
    let E = typing_environment c.args.env in
    let b = c.args.consequent.now in
    let t = has_kind E K _ a c.in-Ok.is (c.in-Some-Either.ensures ∙ ap boolean_view c.in-Some-Either.field-0-is) h in
    then_both E K _ _ a b _ _ c.both.ensures t.1 (behind_moved E b _ _ _ t.0 c.type_under_gained-in-Some-Either.ensures)

pub type_then-returns-in-Some-False : goal.type_then-returns-in-Some-False
type_then-returns-in-Some-False level c = λ K a h.
    let E = typing_environment c.args.env in
    let t = has_kind E K _ a c.in-Ok.is (c.in-Some-False.ensures ∙ ap boolean_view c.in-Some-False.field-0-is) h in
    (t.0, (_, t.1))

pub type_then-returns-in-None : goal.type_then-returns-in-None
type_then-returns-in-None level c = λ K a h n x.
    let E = typing_environment c.args.env in
    let t = typed_so E K c.args.known.now a c.in-Ok.is h in
    faults.test_no_boolean a c.args.consequent.now x t.1 c.in-None.ensures

pub type_then-returns-in-Err : goal.type_then-returns-in-Err
type_then-returns-in-Err level c = λ K a h n x.
    faults.fault_in_test a c.args.consequent.now x
    (faulty_so (typing_environment c.args.env) K c.args.known.now a c.in-Err.is h n)

pub type_else-returns-in-Ok-Skipped : goal.type_else-returns-in-Ok-Skipped
type_else-returns-in-Ok-Skipped level c = λ K a b h.
    let E = typing_environment c.args.env in
    let t = then_so E K c.args.known.now a b c.in-Ok-Skipped.is h in
    let i = rw c.in-Ok-Skipped.field-0-is at t.1 in
    else_only E K i.0 _ a b c.args.alternative.now _ i.1 (moved E c.args.alternative.now _ _ t.0 (at_form E _ _ _ (sym c.deref.ensures) c.type_of.ensures))

pub type_else-returns-in-Err : goal.type_else-returns-in-Err
type_else-returns-in-Err level c = λ K a b h n.
    then_faulty (typing_environment c.args.env) K c.args.known.now a b c.in-Err.is h n c.args.alternative.now

pub type_else-returns-in-Ok-Only : goal.type_else-returns-in-Ok-Only
type_else-returns-in-Ok-Only level c = λ K a b h.
    let E = typing_environment c.args.env in
    let x = c.args.alternative.now in
    let t = then_so E K c.args.known.now a b c.in-Ok-Only.is h in
    let i = rw c.in-Ok-Only.field-0-is at t.1 in
    (t.0, subst (λ N. Types E K (form.If a b x) (static_view c.in-Ok-Only.typed.kind) N) (sym i.4) (typing.if_of_true a b x i.2 i.3))

pub type_else-returns-in-Ok-Both : goal.type_else-returns-in-Ok-Both
type_else-returns-in-Ok-Both level c = λ K a b h.
    let E = typing_environment c.args.env in
    let x = c.args.alternative.now in
    let t = then_so E K c.args.known.now a b c.in-Ok-Both.is h in
    let i = rw c.in-Ok-Both.field-0-is at t.1 in
    c.branches.ensures E K _ a b x i (moved E x _ _ t.0 (at_form E _ _ _ (sym c.deref-in-Ok-Both.ensures) c.type_of-other.ensures))

pub type_under_gained-returns-in-Ok : goal.type_under_gained-returns-in-Ok
type_under_gained-returns-in-Ok level c =
    let E = typing_environment c.args.env in
    let x = c.args.expr.now in
    let K = c.args.known.now in
    let ls = c.args.gains.items in
    let M = c.type_of-typed.new.known in
    let j = subst (λ N. Judged E N x c.type_of-typed.result M) c.in-Ok.ensures
    (at_form E _ _ _ (sym c.deref.ensures) c.type_of-typed.ensures) in
    subst (λ N. JudgedUnder E K (capabilities ls) x c.gained_too.result N)
    (sym (c.truncate_to.ensures ∙ ap (λ n. take n M) c.len-height.ensures))
    (behind_judged E x K ls M _ _ j c.gained_too.ensures)

pub type_and-returns-in-Some : goal.type_and-returns-in-Some
type_and-returns-in-Some level c =
    let E = typing_environment c.args.env in
    let K = c.args.known.now in
    let a = c.args.left.now in
    let b = c.args.right.now in
    let op = c.in-Binary.operator in
    let x = c.in-Binary.again in
    let y = c.in-Binary.other in
    let n = c.in-Some.name.now in
    let q = c.in-Some.ensures in
    let test = sym c.deref-in-Binary.ensures ∙ (q.0 ∙ ap (λ z. form.Unary (Is n) z) c.deref-in-Binary-2.ensures) in
    let free = subst (λ z. UndecidedByLiterals E op z y) c.deref-in-Binary-2.ensures
    (subst (λ z. UndecidedByLiterals E op c.deref-in-Binary-2.result.now z) c.deref-in-Binary-3.ensures q.2) in
    let f = asked_so E K _ a x n c.type_of-test.result test q.1 (at_form E K _ _ (sym c.deref.ensures) c.type_of-test.ensures) in
    let last = moved E y _ _ f.same (at_form E _ _ _ (sym c.deref-in-Some.ensures) c.type_of-other.ensures) in
    let second = c.repeated_operand_typed-right.ensures K f.learned _ x y free f.has_type last in
    c.and_typed.ensures E K [] _ a b f.is_true rows.surely
    (behind_nothing E K _ b _ (at_form E K _ _ (sym c.deref-2.ensures ∙ c.in-Binary.is) second))

pub type_and-returns-in-None : goal.type_and-returns-in-None
type_and-returns-in-None level c =
    let E = typing_environment c.args.env in
    let K = c.args.known.now in
    c.second_conjunct.ensures K c.args.left.now (at_form E K _ _ (sym c.deref.ensures) c.type_of-test.ensures)

pub type_and-returns-in_default : goal.type_and-returns-in_default
type_and-returns-in_default level c =
    let E = typing_environment c.args.env in
    let K = c.args.known.now in
    c.second_conjunct-in_default.ensures K c.args.left.now (at_form E K _ _ (sym c.deref.ensures) c.type_of-test.ensures)

pub type_or-returns : goal.type_or-returns
type_or-returns level c =
    let E = typing_environment c.args.env in
    let K = c.args.known.now in
    c.second_disjunct.ensures K c.args.left.now (at_form E K _ _ (sym c.deref.ensures) c.type_of-left.ensures)

pub type_binary-returns-in-Some : goal.type_binary-returns-in-Some
type_binary-returns-in-Some level c =
    let E = typing_environment c.args.env in
    let K = c.args.known.now in
    let op = c.args.operator in
    let a = c.args.left.now in
    let b = c.args.right.now in
    let s = subst (λ x. DecidedByLiterals E op x b c.in-Some.truth) c.deref.ensures
    (subst (λ y. DecidedByLiterals E op c.deref.result.now y c.in-Some.truth) c.deref-2.ensures c.in-Some.ensures) in
    plain_judged E K K (form.Binary op a b) c.plain.result
    (ap static_view c.plain.ensures.kind ∙ (c.boolean.ensures ∙ c.truth_type.ensures))
    c.plain.ensures.gains refl (typing.types_decided op a b s)

pub type_binary-returns-in-None : goal.type_binary-returns-in-None
type_binary-returns-in-None level c =
    let E = typing_environment c.args.env in
    let K = c.args.known.now in
    let op = c.args.operator in
    let a = c.args.left.now in
    let b = c.args.right.now in
    let s = subst (λ x. UndecidedByLiterals E op x b) c.deref.ensures
    (subst (λ y. UndecidedByLiterals E op c.deref.result.now y) c.deref-2.ensures c.in-None.ensures) in
    c.second_operand.ensures K a s (at_form E K _ _ (sym c.deref-in-None.ensures) c.type_of-left.ensures)

pub type_of-returns-in-Literal : goal.type_of-returns-in-Literal
type_of-returns-in-Literal level c =
    let E = typing_environment c.args.env in
    let K = c.args.known.now in
    at_form E K K (Ok c.plain.result) c.in-Literal.is
    (plain_judged E K K (form.Literal c.in-Literal.literal) c.plain.result (ap static_view c.plain.ensures.kind ∙ c.literal_type.ensures)
    c.plain.ensures.gains refl (typing.types_literal c.in-Literal.literal))

pub type_of-returns-in-Variable : goal.type_of-returns-in-Variable
type_of-returns-in-Variable level c =
    let E = typing_environment c.args.env in
    let K = c.args.known.now in
    let v = c.in-Variable.variable in
    at_form E K K (Ok c.plain-in-Variable.result) c.in-Variable.is
    (plain_judged E K K (form.Variable v) c.plain-in-Variable.result (ap static_view c.plain-in-Variable.ensures.kind ∙ c.variable_type.ensures)
    c.plain-in-Variable.ensures.gains refl (typing.types_variable v))

pub type_of-returns-in-If : goal.type_of-returns-in-If
type_of-returns-in-If level c =
    let E = typing_environment c.args.env in
    let K = c.args.known.now in
    let a = c.in-If.test in
    let j = at_form E K _ _ (sym c.deref.ensures) c.type_of-test.ensures in
    at_form E K _ _ c.in-If.is (c.type_else.ensures K a c.in-If.consequent (c.type_then-then.ensures K a j))

pub type_of-returns-in-And : goal.type_of-returns-in-And
type_of-returns-in-And level c =
    at_form (typing_environment c.args.env) c.args.known.now _ _ c.in-And.is c.type_and.ensures

pub type_of-returns-in-Or : goal.type_of-returns-in-Or
type_of-returns-in-Or level c =
    at_form (typing_environment c.args.env) c.args.known.now _ _ c.in-Or.is c.type_or.ensures

pub type_of-returns-in-BinaryCall : goal.type_of-returns-in-BinaryCall
type_of-returns-in-BinaryCall level c =
    let E = typing_environment c.args.env in
    let K = c.args.known.now in
    at_form E K _ _ c.in-BinaryCall.is
    (c.second_called.ensures K c.in-BinaryCall.left (at_form E K _ _ (sym c.deref-in-BinaryCall.ensures) c.type_of-left.ensures))

pub type_of-returns-in-Unary : goal.type_of-returns-in-Unary
type_of-returns-in-Unary level c =
    let E = typing_environment c.args.env in
    let K = c.args.known.now in
    at_form E K _ _ c.in-Unary.is
    (c.unary_typed.ensures E K _ c.in-Unary.operand (at_form E K _ _ (sym c.deref-in-Unary.ensures) c.type_of-operand.ensures))

pub type_of-returns-in-Binary : goal.type_of-returns-in-Binary
type_of-returns-in-Binary level c =
    at_form (typing_environment c.args.env) c.args.known.now _ _ c.in-Binary.is c.type_binary.ensures

pub type_of-returns-in-Field : goal.type_of-returns-in-Field
type_of-returns-in-Field level c =
    let E = typing_environment c.args.env in
    let K = c.args.known.now in
    let k = c.in-Field.name in
    let j = at_form E K _ _ (c.deref-in-Field-2.ensures ∙ sym c.deref-in-Field.ensures) c.type_of-typed.ensures in
    at_form E K _ _ (c.in-Field.is ∙ (ap (λ x. form.Field x k) (sym c.deref-in-Field-2.ensures)
    ∙ ap (λ n. form.Field c.deref-in-Field-2.result.now n) (sym c.as_str.ensures)))
    (c.field_typed.ensures K j)

pub type_of-returns-in-Has : goal.type_of-returns-in-Has
type_of-returns-in-Has level c =
    let E = typing_environment c.args.env in
    let K = c.args.known.now in
    let k = c.in-Has.name in
    let j = at_form E K _ _ (c.deref-in-Has-2.ensures ∙ sym c.deref-in-Has.ensures) c.type_of-typed-in-Has.ensures in
    at_form E K _ _ (c.in-Has.is ∙ (ap (λ x. form.Has x k) (sym c.deref-in-Has-2.ensures)
    ∙ ap (λ n. form.Has c.deref-in-Has-2.result.now n) (sym c.as_str-in-Has.ensures)))
    (c.has_typed.ensures K j)

pub type_of-returns-in-Set : goal.type_of-returns-in-Set
type_of-returns-in-Set level c =
    let E = typing_environment c.args.env in
    let K = c.args.known.now in
    at_form E K _ _ c.in-Set.is (c.set_typed.ensures E K _ c.in-Set.members c.types_of.ensures)

pub type_of-returns-in-Record : goal.type_of-returns-in-Record
type_of-returns-in-Record level c =
    let E = typing_environment c.args.env in
    let K = c.args.known.now in
    let t = c.types_of_fields-types.result in
    let after = c.types_of_fields-types.new.known in
    let j = subst (λ (gs : List (Named Expr)). JudgedEach E K (map (λ (f : Named Expr). f.value) gs) t after)
    (sym c.as_slice.ensures) c.types_of_fields-types.ensures in
    at_form E K _ _ (c.in-Record.is ∙ ap form.Record (sym c.as_slice.ensures)) (c.record_typed.ensures E K _ j)

pub type_of-returns-in-UnaryCall : goal.type_of-returns-in-UnaryCall
type_of-returns-in-UnaryCall level c =
    let E = typing_environment c.args.env in
    let K = c.args.known.now in
    let o = c.in-UnaryCall.called in
    let j = at_form E K _ _ (c.deref-in-UnaryCall-2.ensures ∙ sym c.deref-in-UnaryCall.ensures) c.type_of-typed-in-UnaryCall.ensures in
    at_form E K _ _ (c.in-UnaryCall.is ∙ ap (λ x. form.UnaryCall o x) (sym c.deref-in-UnaryCall-2.ensures))
    (c.unary_call_typed.ensures E K _ j)

pub types_of-loop-expr-init : goal.types_of-loop-expr-init
types_of-loop-expr-init level c =
    (refl, none_yet (typing_environment c.args.env) c.args.known.now _ c.new-types.ensures.items)

pub types_of-returns-in-Err : goal.types_of-returns-in-Err
types_of-returns-in-Err level c =
    let E = typing_environment c.args.env in
    let K = c.args.known.now in
    let x = c.expr-item.result in
    let h = c.loop-expr.invariant in
    let at = stands_at c.as_slice-expr-items.ensures c.loop-expr-test.true c.expr-item.is in
    let j = moved E x _ _ h.0 c.type_of-typed.ensures in
    λ n. member_stops E K c.args.exprs.now _ x _ _ at h.1 (c.in-Err.ensures E K _ x j n)

pub types_of-loop-expr-preserved : goal.types_of-loop-expr-preserved
types_of-loop-expr-preserved level c =
    let E = typing_environment c.args.env in
    let K = c.args.known.now in
    let x = c.expr-item.result in
    let h = c.loop-expr.invariant in
    let at = stands_at c.as_slice-expr-items.ensures c.loop-expr-test.true c.expr-item.is in
    let p = c.in-Ok.ensures E K _ x (moved E x _ _ h.0 c.type_of-typed.ensures) in
    (p.0, member_more E K c.args.exprs.now _ x _ _ at refl h.1 p.1)

pub types_of-loop-expr-preserved-then-repeats : goal.types_of-loop-expr-preserved-then-repeats
types_of-loop-expr-preserved-then-repeats level c =
    let h = c.loop-expr.invariant in
    let at = stands_at c.as_slice-expr-items.ensures c.loop-expr-test.true c.expr-item.is in (
      h.0,
      member_again (typing_environment c.args.env) c.args.known.now c.args.exprs.now _ c.expr-item.result _ _ at
          (c.repeats.ensures c.if-repeats.true) h.1,
    )

pub types_of_fields-loop-field-init : goal.types_of_fields-loop-field-init
types_of_fields-loop-field-init level c =
    let E = typing_environment c.args.env in
    let K = c.args.known.now in
    (refl, subst (λ zs. TypesEach E K [] (map static_view zs)) (sym c.new-types.ensures.items) typing.types_none)

pub types_of_fields-returns-in-Err : goal.types_of_fields-returns-in-Err
types_of_fields-returns-in-Err level c =
    let E = typing_environment c.args.env in
    let K = c.args.known.now in
    let x = c.field-item.result in
    let h = c.loop-field.invariant in
    let at = stands_at c.as_slice-field-items.ensures c.loop-field-test.true c.field-item.is in
    let j = moved E x.value _ _ h.0 c.type_of-typed.ensures in
    λ n. stops_at E K (λ (f : Named Expr). f.value) c.args.fields.now _ x _ _ at h.1 (c.in-Err.ensures E K _ x.value j n)

pub types_of_fields-loop-field-preserved : goal.types_of_fields-loop-field-preserved
types_of_fields-loop-field-preserved level c =
    let E = typing_environment c.args.env in
    let K = c.args.known.now in
    let x = c.field-item.result in
    let h = c.loop-field.invariant in
    let at = stands_at c.as_slice-field-items.ensures c.loop-field-test.true c.field-item.is in
    let p = c.in-Ok.ensures E K _ x.value (moved E x.value _ _ h.0 c.type_of-typed.ensures) in
    (p.0, goes_on E K (λ (f : Named Expr). f.value) c.args.fields.now _ x _ _ at h.1 p.1)
