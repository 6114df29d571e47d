-- Defines the policy of a syntax tree, and the policy's name. In each definition `text` is the text that the tree's
-- tokens are in.
-- Source: Cedar reference guide 4.0, "Basic policy construction": effect, scope, conditions and annotations; "Grammar
-- specification for Cedar policy syntax". That a policy is named by its `@id` follows the Cedar command line; the names
-- of policies without one are a rule of this product.
use Rattle.std.specs.Prelude.{◌≡◌, ℕ, Bool, List, [], ◌++◌, Option, Some, None, codes, find}
use Rattle.std.specs.List.{AllZip, enumerate_from}
use Rattle.std.specs.Fmt.{decimal}
use Rattle.std.specs.Str.{bytes_eq}
use Rattle.values.specs.declared.entity_uid.EntityUid.{EntityUid}
use Rattle.grammar_desugaring.specs.grammar_syntax.declared.token.TokenKind.{TokenKind}
use Rattle.grammar_desugaring.specs.grammar_syntax.declared.token.TokenKind.TheVariants as k
use Rattle.grammar_desugaring.specs.grammar_syntax.declared.token.Token.{Token}
use Rattle.grammar_desugaring.specs.grammar_syntax.Lexing.{spelling_of}
use Rattle.grammar_desugaring.specs.grammar_syntax.Strings.{IsStringOf}
use Rattle.grammar_desugaring.specs.grammar_syntax.declared.name_trees.UidTree.{UidTree}
use Rattle.grammar_desugaring.specs.Meaning.{path_name, uid_of}
use Rattle.grammar_parsing.specs.declared.tree.Annotation.{Annotation}
use Rattle.grammar_parsing.specs.declared.tree.PartTree.{PartTree}
use Rattle.grammar_parsing.specs.declared.tree.PartTree.TheVariants as part
use Rattle.grammar_parsing.specs.declared.tree.ActionTree.{ActionTree}
use Rattle.grammar_parsing.specs.declared.tree.ActionTree.TheVariants as action
use Rattle.grammar_parsing.specs.declared.tree.PolicyTree.{PolicyTree}
use Rattle.policy_grammar.specs.declared.policy.Effect.{Effect}
use Rattle.policy_grammar.specs.declared.policy.Effect.TheVariants.{Permit, Forbid}
use Rattle.policy_grammar.specs.declared.policy.EntityScope.{EntityScope}
use Rattle.policy_grammar.specs.declared.policy.EntityScope.TheVariants as entity
use Rattle.policy_grammar.specs.declared.policy.ActionScope.{ActionScope}
use Rattle.policy_grammar.specs.declared.policy.ActionScope.TheVariants as actions
use Rattle.policy_grammar.specs.declared.policy.Policy.{Policy}
use Rattle.policy_grammar.specs.Conditions.{conditions_of}

-- `IsUidOf text tree uid` holds if `uid` is the uid of `tree`.
abbrev pub IsUidOf : List ℕ → UidTree → EntityUid → Type 0
IsUidOf text tree uid = uid ≡ uid_of text tree

-- `AreUidsOf text trees uids` holds if `uids` are the uids of `trees`, in order.
abbrev pub AreUidsOf : List ℕ → List UidTree → List EntityUid → Type 0
AreUidsOf text = AllZip (IsUidOf text)

-- `IsEntityScopeOf text part scope` holds if `scope` is the constraint, on the principal or the resource, that the tree
-- `part` denotes.
abbrev pub IsEntityScopeOf : List ℕ → PartTree → EntityScope → Type 0
IsEntityScopeOf text part.Any entity.Any = Unit {0}
IsEntityScopeOf text (part.Equal tree) (entity.Equal uid) = IsUidOf text tree uid
IsEntityScopeOf text (part.In tree) (entity.In uid) = IsUidOf text tree uid
IsEntityScopeOf text (part.Is path) (entity.Is name) = name ≡ path_name text path
IsEntityScopeOf text (part.IsIn path tree) (entity.IsIn name uid) = (name ≡ path_name text path) × IsUidOf text tree uid
IsEntityScopeOf text _ _ = ⊥

-- `IsActionScopeOf text tree scope` holds if `scope` is the constraint, on the action, that `tree` denotes.
abbrev pub IsActionScopeOf : List ℕ → ActionTree → ActionScope → Type 0
IsActionScopeOf text action.Any actions.Any = Unit {0}
IsActionScopeOf text (action.Equal tree) (actions.Equal uid) = IsUidOf text tree uid
IsActionScopeOf text (action.In tree) (actions.In uid) = IsUidOf text tree uid
IsActionScopeOf text (action.InList trees) (actions.InList uids) = AreUidsOf text trees uids
IsActionScopeOf text _ _ = ⊥

-- `effect_word effect` is the keyword of `effect`.
abbrev pub effect_word : Effect → TokenKind
effect_word Permit = k.Permit
effect_word Forbid = k.Forbid

-- `IsCoreOf text tree policy` holds if `policy` is the policy of `tree`. The annotations of `tree` do not matter.
pub record IsCoreOf (text : List ℕ) (tree : PolicyTree) (policy : Policy) : Type 0 where
  pub effect : tree.effect.kind ≡ effect_word policy.effect
  pub principal : IsEntityScopeOf text tree.principal policy.scope.principal
  pub action : IsActionScopeOf text tree.action policy.scope.action
  pub resource : IsEntityScopeOf text tree.resource policy.scope.resource
  pub condition : policy.condition ≡ conditions_of text tree.conditions

-- `IsValueOf text token value` holds if `value` is the value of an annotation: that of the string `token`, or the empty
-- string if `token` is `None`.
abbrev pub IsValueOf : List ℕ → Option Token → List ℕ → Type 0
IsValueOf text None value = value ≡ []
IsValueOf text (Some token) value = IsStringOf value (spelling_of text token)

-- `is_id text annotation` tests whether the key of `annotation` is `id`.
abbrev pub is_id : List ℕ → Annotation → Bool
is_id text annotation = bytes_eq (spelling_of text annotation.key) (codes "id")

-- `IsNameBy text place id name` holds if `name` is the value of the annotation `id`; without an annotation (`None`), if
-- `name` is `policy` followed by the index `place` in decimal.
abbrev pub IsNameBy : List ℕ → ℕ → Option Annotation → List ℕ → Type 0
IsNameBy text place None name = name ≡ codes "policy" ++ decimal place
IsNameBy text place (Some annotation) name = IsValueOf text annotation.value name

-- `IsNameOf text place tree name` holds if `name` is the name of the policy `tree` at the index `place`, counted from
-- 0: the value of the first `@id` of `tree`, or the name by index if `tree` has no `@id`.
abbrev pub IsNameOf : List ℕ → ℕ → PolicyTree → List ℕ → Type 0
IsNameOf text place tree name = IsNameBy text place (find (is_id text) tree.annotations) name

-- `AreCoresOf text trees policies` holds if `policies` are the policies of `trees`, in order.
abbrev pub AreCoresOf : List ℕ → List PolicyTree → List Policy → Type 0
AreCoresOf text = AllZip (IsCoreOf text)

-- `AreNamesOf text trees names` holds if `names` are the names of the policies `trees` of a file, in order.
abbrev pub AreNamesOf : List ℕ → List PolicyTree → List (List ℕ) → Type 0
AreNamesOf text trees = AllZip (λ placed. IsNameOf text placed.0 placed.1) (enumerate_from 0 trees)
