-- Policies of two texts whose tokens are the same say the same: one rule a production.
use Rattle.std.proofs.Common.{◌≡◌, ℕ, List, [], ◌∷◌, map, Option, Some, None, refl, sym, ap, ◌∙◌}
use Rattle.std.specs.List.{AllZip}
use Rattle.grammar_desugaring.specs.grammar_syntax.declared.token.TokenKind.{TokenKind}
use Rattle.grammar_desugaring.specs.grammar_syntax.declared.token.TokenKind.TheVariants as k
use Rattle.grammar_desugaring.specs.grammar_syntax.Kinds.{only}
use Rattle.grammar_desugaring.specs.grammar_syntax.declared.name_trees.PathTree.{PathTree}
use Rattle.grammar_desugaring.specs.grammar_syntax.declared.name_trees.UidTree.{UidTree}
use Rattle.grammar_parsing.specs.declared.tree.PartTree.{PartTree}
use Rattle.grammar_parsing.specs.declared.tree.PartTree.TheVariants as part_tree
use Rattle.grammar_parsing.specs.declared.tree.ActionTree.{ActionTree}
use Rattle.grammar_parsing.specs.declared.tree.ActionTree.TheVariants as action_tree
use Rattle.grammar_parsing.specs.declared.tree.Condition.{Condition}
use Rattle.grammar_parsing.specs.declared.tree.PolicyTree.{PolicyTree}
use Rattle.grammar_parsing.specs.Grammar as g
use Rattle.grammar_parsing.specs.Grammar.{words, effects, condition_word_of, is_in}
use Rattle.policy_grammar.specs.declared.policy.EntityScope.{EntityScope}
use Rattle.policy_grammar.specs.declared.policy.EntityScope.TheVariants as entity
use Rattle.policy_grammar.specs.declared.policy.ActionScope.{ActionScope}
use Rattle.policy_grammar.specs.declared.policy.ActionScope.TheVariants as actions
use Rattle.policy_grammar.specs.declared.policy.Policy.{Policy}
use Rattle.values.specs.declared.entity_uid.EntityUid.{EntityUid}
use Rattle.policy_grammar.specs.Conditions.{condition_expression, condition_of, joined}
use Rattle.policy_grammar.specs.CoreOf.{AreUidsOf, IsEntityScopeOf, IsActionScopeOf, IsCoreOf}
use Rattle.policy_grammar.proofs.Kin.{Kin, Both, of_kin, empty_kin, both_kin, giving_kin, or_kin, maybe_kin, many_kin}
use Rattle.policy_grammar.proofs.Kin.{symbol_kin, behind_kin}
use Rattle.policy_grammar.proofs.Forms.{SameTree, SamePath, SameUid}
use Rattle.policy_grammar.proofs.FileReadings.{path_kin, uid_kin, expr_kin}

module _ (text part : List ℕ) where
  abbrev SamePart : PartTree → PartTree → Type 0
  SamePart part_tree.Any part_tree.Any = Unit {0}
  SamePart (part_tree.Equal a) (part_tree.Equal b) = SameUid text part a b
  SamePart (part_tree.In a) (part_tree.In b) = SameUid text part a b
  SamePart (part_tree.Is p) (part_tree.Is q) = SamePath text part p q
  SamePart (part_tree.IsIn p a) (part_tree.IsIn q b) = SamePath text part p q × SameUid text part a b
  SamePart _ _ = ⊥

  abbrev SameAction : ActionTree → ActionTree → Type 0
  SameAction action_tree.Any action_tree.Any = Unit {0}
  SameAction (action_tree.Equal a) (action_tree.Equal b) = SameUid text part a b
  SameAction (action_tree.In a) (action_tree.In b) = SameUid text part a b
  SameAction (action_tree.InList xs) (action_tree.InList ys) = AllZip (SameUid text part) xs ys
  SameAction _ _ = ⊥

  abbrev SameCondition : Condition → Condition → Type 0
  SameCondition a b = (a.word ≡ b.word) × SameTree text part a.expression b.expression

  pub record SamePolicy (a b : PolicyTree) : Type 0 where
    pub effect : a.effect.kind ≡ b.effect.kind
    pub principal : SamePart a.principal b.principal
    pub action : SameAction a.action b.action
    pub resource : SamePart a.resource b.resource
    pub conditions : AllZip SameCondition a.conditions b.conditions

  -- annotations say nothing of a policy
  abbrev Anything : {A : Type 0} → A → A → Type 0
  Anything a b = Unit {0}

  value_kin : Kin text part g.annotation_value g.annotation_value Anything
  value_kin =
      behind_kin text part k.LParen
      (both_kin text part (maybe_kin text part (of_kin text part (only k.Text))) (λ a b s. behind_kin text part k.RParen (empty_kin text part _ _ _ tt)))

  annotation_kin : Kin text part g.annotation g.annotation Anything
  annotation_kin =
      both_kin text part (of_kin text part (only k.At))
      (λ a b s. both_kin text part (of_kin text part words)
      (λ c d h. both_kin text part (or_kin text part value_kin (empty_kin text part _ None None tt)) (λ x y l. empty_kin text part _ _ _ tt)))

  equal_kin : Kin text part g.equal_uid g.equal_uid (SameUid text part)
  equal_kin = behind_kin text part k.Equal (uid_kin text part)

  in_kin : Kin text part g.in_uid g.in_uid (SameUid text part)
  in_kin = behind_kin text part k.In (uid_kin text part)

  is_in_same : (p q : PathTree) (a b : Option UidTree) → SamePath text part p q → Both text part (SameUid text part) a b → SamePart (is_in p a) (is_in q b)
  is_in_same p q None None s h = s
  is_in_same p q None (Some b) s h = absurd h
  is_in_same p q (Some a) None s h = absurd h
  is_in_same p q (Some a) (Some b) s h = (s, h)

  typed_kin : Kin text part g.type_test g.type_test SamePart
  typed_kin =
      behind_kin text part k.Is
      (both_kin text part (path_kin text part) (λ p q s. both_kin text part (maybe_kin text part in_kin) (λ a b h. empty_kin text part _ _ _ (is_in_same p q a b s h))))

  constraint_kin : Kin text part g.entity_constraint g.entity_constraint SamePart
  constraint_kin =
      or_kin text part (giving_kin text part _ part_tree.Equal part_tree.Equal equal_kin (λ a b h. h))
      (or_kin text part (giving_kin text part _ part_tree.In part_tree.In in_kin (λ a b h. h))
      (or_kin text part typed_kin (empty_kin text part _ part_tree.Any part_tree.Any tt)))

  part_kin : (variable : TokenKind) → Kin text part (g.entity_part variable) (g.entity_part variable) SamePart
  part_kin variable = behind_kin text part variable constraint_kin

  uids_kin : Kin text part g.uids g.uids (AllZip (SameUid text part))
  uids_kin =
      or_kin text part
      (both_kin text part (uid_kin text part) (λ a b s. both_kin text part (many_kin text part (behind_kin text part k.Comma (uid_kin text part))) (λ xs ys h. empty_kin text part _ _ _ (s, h))))
      (empty_kin text part _ _ _ tt)

  list_kin : Kin text part g.uid_list g.uid_list SameAction
  list_kin = behind_kin text part k.LBracket (both_kin text part uids_kin (λ xs ys h. behind_kin text part k.RBracket (empty_kin text part _ _ _ h)))

  action_kin : Kin text part g.action_part g.action_part SameAction
  action_kin =
      behind_kin text part k.Action
      (or_kin text part (giving_kin text part _ action_tree.Equal action_tree.Equal equal_kin (λ a b h. h))
      (or_kin text part (behind_kin text part k.In (or_kin text part list_kin (giving_kin text part _ action_tree.In action_tree.In (uid_kin text part) (λ a b h. h))))
      (empty_kin text part _ action_tree.Any action_tree.Any tt)))

  scope_kin : Kin text part g.scope g.scope (λ a b. SamePart a.principal b.principal × SameAction a.action b.action × SamePart a.resource b.resource)
  scope_kin =
      both_kin text part (part_kin k.Principal)
      (λ a b s. behind_kin text part k.Comma
      (both_kin text part action_kin
      (λ c d h. behind_kin text part k.Comma
      (both_kin text part (part_kin k.Resource) (λ x y l. empty_kin text part _ _ _ (s, h, l))))))

  condition_kin : (n : ℕ) → Kin text part (g.condition n) (g.condition n) SameCondition
  condition_kin n =
      both_kin text part (symbol_kin text part condition_word_of)
      (λ a b s. behind_kin text part k.LBrace
      (both_kin text part (expr_kin text part n) (λ x y h. behind_kin text part k.RBrace (empty_kin text part _ _ _ (s, h)))))

  pub policy_kin : (n : ℕ) → Kin text part (g.policy n) (g.policy n) SamePolicy
  policy_kin n =
      both_kin text part (many_kin text part annotation_kin)
      (λ notes others s. both_kin text part (of_kin text part effects)
      (λ effect word h. behind_kin text part k.LParen
      (both_kin text part scope_kin
      (λ scope other l. behind_kin text part k.RParen
      (both_kin text part (many_kin text part (condition_kin n))
      (λ cs ds m. behind_kin text part k.Semicolon
      (empty_kin text part _ _ _ (record { effect = h.kind; principal = l.0; action = l.1; resource = l.2; conditions = m }))))))))

  -- ---- so they stand for one policy

  entity_scope : (a b : PartTree) (scope : EntityScope) → SamePart a b → IsEntityScopeOf text a scope → IsEntityScopeOf part b scope
  entity_scope part_tree.Any part_tree.Any entity.Any s h = tt
  entity_scope (part_tree.Equal a) (part_tree.Equal b) (entity.Equal uid) s h = h ∙ s
  entity_scope (part_tree.In a) (part_tree.In b) (entity.In uid) s h = h ∙ s
  entity_scope (part_tree.Is p) (part_tree.Is q) (entity.Is name) s h = h ∙ s.0
  entity_scope (part_tree.IsIn p a) (part_tree.IsIn q b) (entity.IsIn name uid) s h = (h.0 ∙ s.0.0, h.1 ∙ s.1)
  entity_scope part_tree.Any part_tree.Any (entity.Equal uid) s h = absurd h
  entity_scope part_tree.Any part_tree.Any (entity.In uid) s h = absurd h
  entity_scope part_tree.Any part_tree.Any (entity.Is name) s h = absurd h
  entity_scope part_tree.Any part_tree.Any (entity.IsIn name uid) s h = absurd h
  entity_scope part_tree.Any (part_tree.Equal b) scope s h = absurd s
  entity_scope part_tree.Any (part_tree.In b) scope s h = absurd s
  entity_scope part_tree.Any (part_tree.Is q) scope s h = absurd s
  entity_scope part_tree.Any (part_tree.IsIn q b) scope s h = absurd s
  entity_scope (part_tree.Equal a) part_tree.Any scope s h = absurd s
  entity_scope (part_tree.Equal a) (part_tree.Equal b) entity.Any s h = absurd h
  entity_scope (part_tree.Equal a) (part_tree.Equal b) (entity.In uid) s h = absurd h
  entity_scope (part_tree.Equal a) (part_tree.Equal b) (entity.Is name) s h = absurd h
  entity_scope (part_tree.Equal a) (part_tree.Equal b) (entity.IsIn name uid) s h = absurd h
  entity_scope (part_tree.Equal a) (part_tree.In b) scope s h = absurd s
  entity_scope (part_tree.Equal a) (part_tree.Is q) scope s h = absurd s
  entity_scope (part_tree.Equal a) (part_tree.IsIn q b) scope s h = absurd s
  entity_scope (part_tree.In a) part_tree.Any scope s h = absurd s
  entity_scope (part_tree.In a) (part_tree.Equal b) scope s h = absurd s
  entity_scope (part_tree.In a) (part_tree.In b) entity.Any s h = absurd h
  entity_scope (part_tree.In a) (part_tree.In b) (entity.Equal uid) s h = absurd h
  entity_scope (part_tree.In a) (part_tree.In b) (entity.Is name) s h = absurd h
  entity_scope (part_tree.In a) (part_tree.In b) (entity.IsIn name uid) s h = absurd h
  entity_scope (part_tree.In a) (part_tree.Is q) scope s h = absurd s
  entity_scope (part_tree.In a) (part_tree.IsIn q b) scope s h = absurd s
  entity_scope (part_tree.Is p) part_tree.Any scope s h = absurd s
  entity_scope (part_tree.Is p) (part_tree.Equal b) scope s h = absurd s
  entity_scope (part_tree.Is p) (part_tree.In b) scope s h = absurd s
  entity_scope (part_tree.Is p) (part_tree.Is q) entity.Any s h = absurd h
  entity_scope (part_tree.Is p) (part_tree.Is q) (entity.Equal uid) s h = absurd h
  entity_scope (part_tree.Is p) (part_tree.Is q) (entity.In uid) s h = absurd h
  entity_scope (part_tree.Is p) (part_tree.Is q) (entity.IsIn name uid) s h = absurd h
  entity_scope (part_tree.Is p) (part_tree.IsIn q b) scope s h = absurd s
  entity_scope (part_tree.IsIn p a) part_tree.Any scope s h = absurd s
  entity_scope (part_tree.IsIn p a) (part_tree.Equal b) scope s h = absurd s
  entity_scope (part_tree.IsIn p a) (part_tree.In b) scope s h = absurd s
  entity_scope (part_tree.IsIn p a) (part_tree.Is q) scope s h = absurd s
  entity_scope (part_tree.IsIn p a) (part_tree.IsIn q b) entity.Any s h = absurd h
  entity_scope (part_tree.IsIn p a) (part_tree.IsIn q b) (entity.Equal uid) s h = absurd h
  entity_scope (part_tree.IsIn p a) (part_tree.IsIn q b) (entity.In uid) s h = absurd h
  entity_scope (part_tree.IsIn p a) (part_tree.IsIn q b) (entity.Is name) s h = absurd h

  uids : (xs ys : List UidTree) (us : List EntityUid) → AllZip (SameUid text part) xs ys → AreUidsOf text xs us → AreUidsOf part ys us
  uids [] [] [] s h = tt
  uids (a ∷ xs) (b ∷ ys) (u ∷ us) s h = (h.0 ∙ s.0, uids xs ys us s.1 h.1)
  uids [] [] (u ∷ us) s h = absurd h
  uids [] (b ∷ ys) us s h = absurd s
  uids (a ∷ xs) [] us s h = absurd s
  uids (a ∷ xs) (b ∷ ys) [] s h = absurd h

  action_scope : (a b : ActionTree) (scope : ActionScope) → SameAction a b → IsActionScopeOf text a scope → IsActionScopeOf part b scope
  action_scope action_tree.Any action_tree.Any actions.Any s h = tt
  action_scope (action_tree.Equal a) (action_tree.Equal b) (actions.Equal uid) s h = h ∙ s
  action_scope (action_tree.In a) (action_tree.In b) (actions.In uid) s h = h ∙ s
  action_scope (action_tree.InList xs) (action_tree.InList ys) (actions.InList us) s h = uids xs ys us s h
  action_scope action_tree.Any action_tree.Any (actions.Equal uid) s h = absurd h
  action_scope action_tree.Any action_tree.Any (actions.In uid) s h = absurd h
  action_scope action_tree.Any action_tree.Any (actions.InList us) s h = absurd h
  action_scope action_tree.Any (action_tree.Equal b) scope s h = absurd s
  action_scope action_tree.Any (action_tree.In b) scope s h = absurd s
  action_scope action_tree.Any (action_tree.InList ys) scope s h = absurd s
  action_scope (action_tree.Equal a) action_tree.Any scope s h = absurd s
  action_scope (action_tree.Equal a) (action_tree.Equal b) actions.Any s h = absurd h
  action_scope (action_tree.Equal a) (action_tree.Equal b) (actions.In uid) s h = absurd h
  action_scope (action_tree.Equal a) (action_tree.Equal b) (actions.InList us) s h = absurd h
  action_scope (action_tree.Equal a) (action_tree.In b) scope s h = absurd s
  action_scope (action_tree.Equal a) (action_tree.InList ys) scope s h = absurd s
  action_scope (action_tree.In a) action_tree.Any scope s h = absurd s
  action_scope (action_tree.In a) (action_tree.Equal b) scope s h = absurd s
  action_scope (action_tree.In a) (action_tree.In b) actions.Any s h = absurd h
  action_scope (action_tree.In a) (action_tree.In b) (actions.Equal uid) s h = absurd h
  action_scope (action_tree.In a) (action_tree.In b) (actions.InList us) s h = absurd h
  action_scope (action_tree.In a) (action_tree.InList ys) scope s h = absurd s
  action_scope (action_tree.InList xs) action_tree.Any scope s h = absurd s
  action_scope (action_tree.InList xs) (action_tree.Equal b) scope s h = absurd s
  action_scope (action_tree.InList xs) (action_tree.In b) scope s h = absurd s
  action_scope (action_tree.InList xs) (action_tree.InList ys) actions.Any s h = absurd h
  action_scope (action_tree.InList xs) (action_tree.InList ys) (actions.Equal uid) s h = absurd h
  action_scope (action_tree.InList xs) (action_tree.InList ys) (actions.In uid) s h = absurd h

  asked : (xs ys : List Condition) → AllZip SameCondition xs ys → map (condition_of text) xs ≡ map (condition_of part) ys
  asked [] [] h = refl
  asked [] (y ∷ ys) h = absurd h
  asked (x ∷ xs) [] h = absurd h
  asked (x ∷ xs) (y ∷ ys) h = λ i. condition_expression (h.0.0 i) (h.0.1 i).alone ∷ asked xs ys h.1 i

  pub core_of_other : (a b : PolicyTree) (policy : Policy) → SamePolicy a b → IsCoreOf text a policy → IsCoreOf part b policy
  core_of_other a b policy s c = record {
    effect = sym s.effect ∙ c.effect;
    principal = entity_scope a.principal b.principal policy.scope.principal s.principal c.principal;
    action = action_scope a.action b.action policy.scope.action s.action c.action;
    resource = entity_scope a.resource b.resource policy.scope.resource s.resource c.resource;
    condition = c.condition ∙ ap joined (asked a.conditions b.conditions s.conditions);
  }
