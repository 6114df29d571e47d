use Rattle.std.proofs.Common.{inl, inr, refl, sym, ◌∙◌}
use Rattle.policy_grammar.specs.Limits.{IsSmallTree}
use Rattle.policy_grammar.specs.PolicyText.{tree_faults}
use Rattle.policy_grammar.proofs.Joining.{sound-tree}
use Rattle.policy_grammar.proofs.Refusing.{refuted}
use Rattle.policy_grammar.proofs.Sizes.{small_core}
use Rattle.policy_grammar.proofs.texts.policy_of.Goals as goal

pub returns-in-Some-clause-refused : goal.returns-in-Some-clause-refused
returns-in-Some-clause-refused c =
    λ other. inl (record { fault = c.in-Some.fault; first = sym c.in_ok-tree_check.ensures.fault ∙ c.in-Some.is; told = c.from.ensures })

pub returns-then-not-tree_check-clause-refused : goal.returns-then-not-tree_check-clause-refused
returns-then-not-tree_check-clause-refused c =
    let none = c.least_fault_is_reported.ensures.none (tree_faults c.args.text.now c.args.tree.now) (sym c.in_ok-tree_check.ensures.fault ∙ c.in_default.is) in
    λ other. inr (none, (refuted (IsSmallTree c.args.text.now c.args.tree.now) c.in_ok-tree_check.tree_check.small c.in_ok-tree_check.ensures.small c.if-not-tree_check.true, refl))

pub core_like-requires-clause-sound : goal.core_like-requires-clause-sound
core_like-requires-clause-sound c =
    sound-tree c.args.text.now c.args.tree.now (c.least_fault_is_reported.ensures.none (tree_faults c.args.text.now c.args.tree.now) (sym c.in_ok-tree_check.ensures.fault ∙ c.in_default.is))

pub returns-clause-read : goal.returns-clause-read
returns-clause-read c = record {
  sound = c.least_fault_is_reported.ensures.none (tree_faults c.args.text.now c.args.tree.now) (sym c.in_ok-tree_check.ensures.fault ∙ c.in_default.is);
  core = c.in_ok-core_like.ensures;
  small = small_core c.args.text.now c.args.tree.now c.in_ok-core_like.field-0 c.in_ok-core_like.ensures (c.in_ok-tree_check.ensures.small.0 c.if-not-tree_check.false);
}
