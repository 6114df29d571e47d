-- A policy's tree is made of the tokens that derive it: one rule a production.
use Rattle.std.proofs.Common.{ℕ, List, ◌∷◌, [], Some, None, Result, Ok, Err, IfOk}
use Rattle.std.specs.List.{AllByRecursion}
use Rattle.grammar_syntax.specs.declared.token.TokenKind.{TokenKind}
use Rattle.grammar_syntax.specs.declared.token.TokenKind.TheVariants as k
use Rattle.grammar_syntax.specs.declared.token.Token.{Token}
use Rattle.grammar_syntax.specs.declared.name_trees.PathTree.{PathTree}
use Rattle.grammar_syntax.specs.declared.name_trees.UidTree.{UidTree}
use Rattle.grammar_parsing.specs.declared.tree.PartTree.TheVariants as part
use Rattle.grammar_parsing.specs.declared.tree.ActionTree.TheVariants as action
use Rattle.grammar_parsing.specs.declared.tree.ScopeTree.{ScopeTree}
use Rattle.grammar_parsing.specs.declared.tree.PolicyTree.{PolicyTree}
use Rattle.grammar_syntax.specs.Kinds.{only}
use Rattle.grammar_syntax.specs.Lang as lang
use Rattle.grammar_syntax.specs.Lang.{Lang}
use Rattle.grammar_syntax.specs.declared.fault.SyntaxFault.{SyntaxFault}
use Rattle.grammar_syntax.specs.ParseResults.{Reads, ReadsWithin}
use Rattle.grammar_parsing.specs.Grammar as g
use Rattle.grammar_parsing.specs.Grammar.{words, effects, condition_word_of, is_in}
use Rattle.grammar_parsing.specs.WellFormed.{WellFormedPath, WellFormedUid, WellFormedValue, WellFormedAnnotation}
use Rattle.grammar_parsing.specs.WellFormed.{WellFormedPart, WellFormedAction, WellFormedCondition, WellFormedPolicy}
use Rattle.grammar_syntax.proofs.WellFormedLemmas.{Makes, token_in, nothing_in, both_in, past_in}
use Rattle.grammar_syntax.proofs.WellFormedLemmas.{giving_in, or_in, maybe_in, many_in, path_in}
use Rattle.grammar_syntax.proofs.WellFormedLemmas.{uid_in}
use Rattle.grammar_parsing.proofs.Published.{expr_in, symbol_in}

module _ (all : List Token) where
  text_in : Makes all (lang.optional (lang.one k.Text)) (WellFormedValue all)
  text_in = maybe_in all (lang.one k.Text) (WellFormedValue all) (token_in all (only k.Text)) tt (λ token t. t)

  value_in : Makes all g.annotation_value (WellFormedValue all)
  value_in = past_in all (both_in all text_in (λ text t. past_in all (nothing_in all _ text t)))

  maybe_value_in : Makes all (lang.◌or◌ g.annotation_value (lang.empty None)) (WellFormedValue all)
  maybe_value_in = or_in all value_in (nothing_in all _ None tt)

  annotation_in : Makes all g.annotation (WellFormedAnnotation all)
  annotation_in =
      both_in all (token_in all (only k.At))
      (λ at a. both_in all (token_in all words)
      (λ key t. both_in all maybe_value_in
      (λ value v. nothing_in all _ (record { at = at; key = key; value = value }) (a, t, v))))

  equal_in : Makes all g.equal_uid (WellFormedUid all)
  equal_in = past_in all (uid_in all)

  in_in : Makes all g.in_uid (WellFormedUid all)
  in_in = past_in all (uid_in all)

  is_in_stands : (path : PathTree) → WellFormedPath all path → (entity : UidTree) → WellFormedUid all entity → WellFormedPart all (is_in path (Some entity))
  is_in_stands path p entity u = (p, u)

  typed_in : Makes all g.type_test (WellFormedPart all)
  typed_in =
      past_in all
      (both_in all (path_in all)
      (λ path p. both_in all (maybe_in all g.in_uid (λ entity. WellFormedPart all (is_in path entity)) in_in p (is_in_stands path p))
      (λ entity s. nothing_in all _ (is_in path entity) s)))

  constraint_in : Makes all g.entity_constraint (WellFormedPart all)
  constraint_in =
      or_in all (giving_in all _ part.Equal equal_in (λ entity u. u))
      (or_in all (giving_in all _ part.In in_in (λ entity u. u))
      (or_in all typed_in (nothing_in all _ part.Any tt)))

  entity_part_in : (variable : TokenKind) → Makes all (g.entity_part variable) (WellFormedPart all)
  entity_part_in variable = past_in all constraint_in

  uids_in : Makes all g.uids (AllByRecursion (WellFormedUid all))
  uids_in =
      or_in all
      (both_in all (uid_in all) (λ first f. both_in all (many_in all (lang.◌>>◌ (lang.one k.Comma) g.uid) (WellFormedUid all) (past_in all (uid_in all))) (λ more m. nothing_in all _ (first ∷ more) (f, m))))
      (nothing_in all _ [] tt)

  list_in : Makes all g.uid_list (WellFormedAction all)
  list_in = past_in all (both_in all uids_in (λ found f. past_in all (nothing_in all _ (action.InList found) f)))

  in_actions_in : Makes all g.in_actions (WellFormedAction all)
  in_actions_in = past_in all (or_in all list_in (giving_in all _ action.In (uid_in all) (λ entity u. u)))

  action_constraint_in : Makes all g.action_constraint (WellFormedAction all)
  action_constraint_in = or_in all (giving_in all _ action.Equal equal_in (λ entity u. u)) (or_in all in_actions_in (nothing_in all _ action.Any tt))

  action_part_in : Makes all g.action_part (WellFormedAction all)
  action_part_in = past_in all action_constraint_in

  record WellFormedScope (s : ScopeTree) : Type 0 where
    principal : WellFormedPart all s.principal
    action : WellFormedAction all s.action
    resource : WellFormedPart all s.resource

  scope_in : Makes all g.scope WellFormedScope
  scope_in =
      both_in all (entity_part_in k.Principal)
      (λ principal p. past_in all
      (both_in all action_part_in
      (λ action a. past_in all
      (both_in all (entity_part_in k.Resource)
      (λ resource r. nothing_in all _ (record { principal = principal; action = action; resource = resource }) (record { principal = p; action = a; resource = r }))))))

  condition_in : (n : ℕ) → Makes all (g.condition n) (WellFormedCondition all)
  condition_in n =
      both_in all (symbol_in all condition_word_of)
      (λ word _. past_in all
      (both_in all (expr_in all n)
      (λ x h. past_in all (nothing_in all _ (record { word = word; expression = x }) h))))

  policy_in : (n : ℕ) → Makes all (g.policy n) (WellFormedPolicy all)
  policy_in n =
      both_in all (many_in all g.annotation (WellFormedAnnotation all) annotation_in)
      (λ notes a. both_in all (token_in all effects)
      (λ effect e. past_in all
      (both_in all scope_in
      (λ found s. past_in all
      (both_in all (many_in all (g.condition n) (WellFormedCondition all) (condition_in n))
      (λ conditions c. past_in all
      (nothing_in all _
      (record { annotations = notes; effect = effect; principal = found.principal; action = found.action; resource = found.resource; conditions = conditions })
      (record { annotations = a; effect = e; principal = s.principal; action = s.action; resource = s.resource; conditions = c }))))))))

pub policy_stands : (n : ℕ) (ts : List Token) (p : PolicyTree) → g.policy n ts p → WellFormedPolicy ts p
policy_stands n ts p d = policy_in ts n ts p d (λ t h. h)

pub policies_stand : (n : ℕ) (ts : List Token) (ps : List PolicyTree) → g.policies n ts ps → AllByRecursion (WellFormedPolicy ts) ps
policies_stand n ts ps d = many_in ts (g.policy n) (WellFormedPolicy ts) (policy_in ts n) ts ps d (λ t h. h)

pub uid_stands : (ts : List Token) (u : UidTree) → g.uid ts u → WellFormedUid ts u
uid_stands ts u d = uid_in ts ts u d (λ t h. h)

-- ---- what a reader answers

pub policy_answer_stands : (n : ℕ) (K : Lang PolicyTree) (ts : List Token) (answer : Result PolicyTree SyntaxFault) → ReadsWithin (g.policy n) K ts answer
    → IfOk answer (WellFormedPolicy ts)
policy_answer_stands n K ts (Ok p) d = policy_stands n ts p d
policy_answer_stands n K ts (Err e) d = tt

pub uid_answer_stands : (ts : List Token) (answer : Result UidTree SyntaxFault) → Reads g.uid ts answer → IfOk answer (WellFormedUid ts)
uid_answer_stands ts (Ok u) d = uid_stands ts u d
uid_answer_stands ts (Err e) d = tt
