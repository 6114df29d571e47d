use Rattle.std.proofs.Common.{◌≡◌, ℕ, List, Option, [], All, inl, inr, map, refl, sym, subst, ap, ◌∙◌}
use Rattle.grammar_desugaring.specs.declared.fault.DesugarFault.{DesugarFault}
use Rattle.grammar_parsing.specs.declared.tree.PolicyTree.{PolicyTree}
use Rattle.policy_grammar.specs.inner.Parts.{ReportsFile}
use Rattle.std.specs.List.{AllByRecursion, flat_map}
use Rattle.grammar_desugaring.specs.ReportedErrors.{least}
use Rattle.grammar_desugaring.specs.Repeats.{repeat_faults}
use Rattle.policy_grammar.specs.CoreOf.{AreNamesOf}
use Rattle.policy_grammar.specs.Limits.{IsSmallTree, IsId}
use Rattle.policy_grammar.specs.PolicyText.{tree_faults, file_faults}
use Rattle.policy_grammar.specs.Repeats.{policy_names}
use Rattle.policy_grammar.proofs.Joining.{sound-all}
use Rattle.policy_grammar.proofs.Lists.{none-right}
use Rattle.policy_grammar.proofs.Refusing.{refuted, names-long}
use Rattle.policy_grammar.proofs.Sizes.{small_cores}
use Rattle.policy_grammar.proofs.Telling.{told-file}
use Rattle.policy_grammar.proofs.texts.policies_of.Goals as goal

-- a repeated name of the lists that were lent
again-over : (lent names : List (List ℕ)) (lent_trees trees : List PolicyTree) (repeat : Option DesugarFault) → lent ≡ names → lent_trees ≡ trees →
    repeat ≡ least (repeat_faults (policy_names lent lent_trees)) → repeat ≡ least (repeat_faults (policy_names names trees))
again-over lent names lent_trees trees repeat same like told =
    told ∙ ap (λ ns. least (repeat_faults (policy_names ns lent_trees))) same ∙ ap (λ ts. least (repeat_faults (policy_names names ts))) like

pub repeated_name-requires-clause-named : goal.repeated_name-requires-clause-named
repeated_name-requires-clause-named c =
    subst (λ ts. AreNamesOf c.args.text.now ts c.deref.result.now) (sym c.deref-2.ensures.value)
    (subst (AreNamesOf c.args.text.now c.args.trees.items) (sym c.deref.ensures.value) c.requires.named)

pub returns-in-Some-clause-refused : goal.returns-in-Some-clause-refused
returns-in-Some-clause-refused c =
    let again = again-over _ _ _ _ _ c.deref.ensures.value c.deref-2.ensures.value c.in_ok-repeat.ensures in
    let told = told-file c.least_fault_is_reported.ensures.both c.args.text.now c.args.trees.items c.args.names.items c.in_ok-repeat.repeat c.in_ok-tree_check.tree_check c.earlier_of.result again
    (subst (λ ts. ReportsFile c.args.text.now ts c.in_ok-tree_check.tree_check) c.deref-3.ensures.value c.in_ok-tree_check.ensures) c.earlier_of.ensures in
    λ other. inl (record { fault = c.in-Some.fault; first = sym told ∙ c.in-Some.is; told = c.from.ensures })

pub returns-then-not-tree_check-clause-refused : goal.returns-then-not-tree_check-clause-refused
returns-then-not-tree_check-clause-refused c =
    let again = again-over _ _ _ _ _ c.deref.ensures.value c.deref-2.ensures.value c.in_ok-repeat.ensures in
    let told = told-file c.least_fault_is_reported.ensures.both c.args.text.now c.args.trees.items c.args.names.items c.in_ok-repeat.repeat c.in_ok-tree_check.tree_check c.earlier_of.result again
    (subst (λ ts. ReportsFile c.args.text.now ts c.in_ok-tree_check.tree_check) c.deref-3.ensures.value c.in_ok-tree_check.ensures) c.earlier_of.ensures in
    let none = c.least_fault_is_reported.ensures.none (file_faults c.args.text.now c.args.trees.items c.args.names.items) (sym told ∙ c.in_default.is) in
    λ other. inr (
      none,
      (
        refuted (AllByRecursion (IsSmallTree c.args.text.now) c.args.trees.items) c.in_ok-tree_check.tree_check.small (subst (λ ts. ReportsFile c.args.text.now ts c.in_ok-tree_check.tree_check) c.deref-3.ensures.value c.in_ok-tree_check.ensures).small c.if-not-tree_check.true,
        refl,
      ),
    )

pub returns-then-not-are_ids-clause-refused : goal.returns-then-not-are_ids-clause-refused
returns-then-not-are_ids-clause-refused c =
    let again = again-over _ _ _ _ _ c.deref.ensures.value c.deref-2.ensures.value c.in_ok-repeat.ensures in
    let told = told-file c.least_fault_is_reported.ensures.both c.args.text.now c.args.trees.items c.args.names.items c.in_ok-repeat.repeat c.in_ok-tree_check.tree_check c.earlier_of.result again
    (subst (λ ts. ReportsFile c.args.text.now ts c.in_ok-tree_check.tree_check) c.deref-3.ensures.value c.in_ok-tree_check.ensures) c.earlier_of.ensures in
    let none = c.least_fault_is_reported.ensures.none (file_faults c.args.text.now c.args.trees.items c.args.names.items) (sym told ∙ c.in_default.is) in
    λ other. inr (
      none,
      (
        (subst (λ ts. ReportsFile c.args.text.now ts c.in_ok-tree_check.tree_check) c.deref-3.ensures.value c.in_ok-tree_check.ensures).small.0 c.if-not-tree_check.false,
        λ ids. refuted (All IsId c.deref-4.result.now) c.are_ids.result c.are_ids.ensures c.if-not-are_ids.true (subst (All IsId) (sym c.deref-4.ensures.value) ids),
      ),
    )

pub named_of-requires-clause-same : goal.named_of-requires-clause-same
named_of-requires-clause-same c = names-long c.args.text.now c.args.trees.items c.args.names.items c.requires.named

pub named_of-requires-clause-sound : goal.named_of-requires-clause-sound
named_of-requires-clause-sound c =
    let again = again-over _ _ _ _ _ c.deref.ensures.value c.deref-2.ensures.value c.in_ok-repeat.ensures in
    let told = told-file c.least_fault_is_reported.ensures.both c.args.text.now c.args.trees.items c.args.names.items c.in_ok-repeat.repeat c.in_ok-tree_check.tree_check c.earlier_of.result again
    (subst (λ ts. ReportsFile c.args.text.now ts c.in_ok-tree_check.tree_check) c.deref-3.ensures.value c.in_ok-tree_check.ensures) c.earlier_of.ensures in
    let none = c.least_fault_is_reported.ensures.none (file_faults c.args.text.now c.args.trees.items c.args.names.items) (sym told ∙ c.in_default.is) in
    sound-all c.args.text.now c.args.trees.items (none-right (repeat_faults (policy_names c.args.names.items c.args.trees.items)) (flat_map (tree_faults c.args.text.now) c.args.trees.items) none)

pub returns-clause-read : goal.returns-clause-read
returns-clause-read c =
    let again = again-over _ _ _ _ _ c.deref.ensures.value c.deref-2.ensures.value c.in_ok-repeat.ensures in
    let told = told-file c.least_fault_is_reported.ensures.both c.args.text.now c.args.trees.items c.args.names.items c.in_ok-repeat.repeat c.in_ok-tree_check.tree_check c.earlier_of.result again
    (subst (λ ts. ReportsFile c.args.text.now ts c.in_ok-tree_check.tree_check) c.deref-3.ensures.value c.in_ok-tree_check.ensures) c.earlier_of.ensures in
    let none = c.least_fault_is_reported.ensures.none (file_faults c.args.text.now c.args.trees.items c.args.names.items) (sym told ∙ c.in_default.is) in
    let made = sym c.in_ok-named_of.ensures.names in
    record {
      named = subst (AreNamesOf c.args.text.now c.args.trees.items) made c.requires.named;
      sound = subst (λ ns. file_faults c.args.text.now c.args.trees.items ns ≡ []) made none;
      cores = c.in_ok-named_of.ensures.cores;
      small = small_cores c.args.text.now c.args.trees.items (map (λ p. p.1) c.in_ok-named_of.field-0.items) c.in_ok-named_of.ensures.cores
          ((subst (λ ts. ReportsFile c.args.text.now ts c.in_ok-tree_check.tree_check) c.deref-3.ensures.value c.in_ok-tree_check.ensures).small.0 c.if-not-tree_check.false);
      ids = subst (All IsId) (c.deref-4.ensures.value ∙ made) (c.are_ids.ensures.0 c.if-not-are_ids.false);
    }
