use Rattle.std.proofs.Common.{◌≡◌, sym, ap, ◌∙◌, ◌++◌, ◌∷◌, [], append_assoc, arith, subst, IfOk}
use Rattle.grammar_parsing.specs.WellFormed.{WellFormedPolicy}
use Rattle.policy_grammar.specs.CoreOf.{IsCoreOf}
use Rattle.policy_grammar.specs.Conditions.{condition_faults}
use Rattle.policy_grammar.proofs.Naming.{cores, among, none-left, name-left, names-all, cores-all, words-step, cores-step}
use Rattle.policy_grammar.proofs.names.named_of.Goals as goal

pub core_like-made-requires-clause-is_well_formed : goal.core_like-made-requires-clause-is_well_formed
core_like-made-requires-clause-is_well_formed c = record {
  tokens = c.requires.is_well_formed.tokens;
  spelled = c.requires.is_well_formed.spelled;
  is_well_formed = among (WellFormedPolicy c.requires.is_well_formed.tokens) c.loop-tree.yielded c.in-Some.tree c.next.new.self.rest.items c.args.trees.items
      (ap (λ ts. c.loop-tree.yielded ++ ts) (sym c.in-Some.ensures.steps.0) ∙ c.loop-tree.invariant.taken) c.requires.is_well_formed.is_well_formed;
}

pub core_like-made-requires-clause-sound : goal.core_like-made-requires-clause-sound
core_like-made-requires-clause-sound c =
    among (λ tree. condition_faults c.args.text.now tree.conditions ≡ []) c.loop-tree.yielded c.in-Some.tree c.next.new.self.rest.items c.args.trees.items
    (ap (λ ts. c.loop-tree.yielded ++ ts) (sym c.in-Some.ensures.steps.0) ∙ c.loop-tree.invariant.taken) c.requires.sound

pub unreachable-requires : goal.unreachable-requires
unreachable-requires c =
    name-left c.args.text.now c.loop-tree.yielded c.in-Some.tree c.next.new.self.rest.items c.args.trees.items c.loop-tree.named.items c.loop-tree.rest.items
    c.args.names.items c.loop-tree.invariant.named c.loop-tree.invariant.cores
    (ap (λ ts. c.loop-tree.yielded ++ ts) (sym c.in-Some.ensures.steps.0) ∙ c.loop-tree.invariant.taken) c.requires.same
    (omega (arith, c.loop-tree.rest.ok, c.in_default.ensures.cases.0))

pub loop-tree-preserved : goal.loop-tree-preserved
loop-tree-preserved c =
    let i = c.loop-tree.invariant in
    let yielded = c.loop-tree.yielded in
    let tree = c.in-Some.tree in
    let rest = c.next.new.self.rest.items in
    let made = subst (λ r. IfOk r (IsCoreOf c.args.text.now tree)) (sym c.after.ensures) c.core_like-made.ensures in
    record {
      can_next = tt;
      is_finite = tt;
      taken = append_assoc yielded (tree ∷ []) rest ∙ ap (λ ts. yielded ++ ts) (sym c.in-Some.ensures.steps.0) ∙ i.taken;
      named = words-step c.loop-tree.named.items c.push.new.self.items c.loop-tree.rest.items c.pop_front.new.self.items c.args.names.items c.in-Some-pop_front.name
          c.into_string.result c.in_ok-policy.policy i.named c.in-Some-pop_front.ensures.items c.into_string.ensures c.in_ok-push.ensures.items;
      cores = cores-step c.args.text.now yielded tree c.loop-tree.named.items c.push.new.self.items c.into_string.result c.in_ok-policy.policy i.cores
          (subst (λ r. IfOk r (IsCoreOf c.args.text.now tree)) c.in_ok-policy.was made) c.in_ok-push.ensures.items;
    }

pub returns-clause-names : goal.returns-clause-names
returns-clause-names c =
    let none = none-left c.loop-tree.tree-iterator.rest.items (omega (arith, c.loop-tree.tree-iterator.rest.ok, c.in-None.ensures.steps.0)) in
    names-all c.args.text.now c.args.trees.items c.loop-tree.named.items c.loop-tree.rest.items c.args.names.items c.loop-tree.invariant.named
    (cores-all c.args.text.now c.loop-tree.yielded c.loop-tree.tree-iterator.rest.items c.args.trees.items (cores c.loop-tree.named.items)
    c.loop-tree.invariant.taken none c.loop-tree.invariant.cores)
    c.requires.same

pub returns-clause-cores : goal.returns-clause-cores
returns-clause-cores c =
    let none = none-left c.loop-tree.tree-iterator.rest.items (omega (arith, c.loop-tree.tree-iterator.rest.ok, c.in-None.ensures.steps.0)) in
    cores-all c.args.text.now c.loop-tree.yielded c.loop-tree.tree-iterator.rest.items c.args.trees.items (cores c.loop-tree.named.items)
    c.loop-tree.invariant.taken none c.loop-tree.invariant.cores
