-- Defines what a text is parsed as: a uid, a policy, a file of policies, or the error of a rejected text. The length
-- and the tokens of a text are checked first, then the grammar, then the core expressions, then the limits. Where a
-- definition has trees, `text` is the text that the trees' tokens are in.
-- Source: Cedar reference guide 4.0, "Grammar specification for Cedar policy syntax". The errors and their order are
-- rules of this product.
use Rattle.std.specs.Prelude.{◌≡◌, ◌⊎◌, ℕ, List, [], Some, All, ◌++◌}
use Rattle.std.specs.List.{AllByRecursion, flat_map}
use Rattle.values.specs.declared.entity_uid.EntityUid.{EntityUid}
use Rattle.grammar_desugaring.specs.grammar_syntax.declared.name_trees.UidTree.{UidTree}
use Rattle.grammar_parsing.specs.declared.tree.PolicyTree.{PolicyTree}
use Rattle.grammar_desugaring.specs.grammar_syntax.Lang.{at_any}
use Rattle.grammar_parsing.specs.Expressions.{nesting_limit}
use Rattle.grammar_parsing.specs.Grammar as grammar
pub use Rattle.policy_grammar.specs.Texts.{Derives, byte_of, StopsAt, IsUnread}
use Rattle.grammar_desugaring.specs.declared.fault.DesugarFault.{DesugarFault}
use Rattle.grammar_desugaring.specs.ReportedErrors.{least}
use Rattle.grammar_desugaring.specs.Repeats.{repeat_faults}
use Rattle.policy_grammar.specs.declared.policy.Policy.{Policy}
use Rattle.policy_grammar.specs.declared.fault.ReadFault.{ReadFault}
use Rattle.policy_grammar.specs.declared.fault.ReadFault.TheVariants as fault
use Rattle.policy_grammar.specs.Conditions.{condition_faults}
use Rattle.policy_grammar.specs.CoreOf.{IsUidOf, IsCoreOf, AreNamesOf, AreCoresOf}
use Rattle.policy_grammar.specs.Faults.{of_desugaring}
use Rattle.policy_grammar.specs.Limits.{IsSmallTree, IsSmallPolicy, IsId, most_policy_bytes, most_file_bytes}
use Rattle.policy_grammar.specs.Repeats.{annotation_keys, policy_names}

-- `tree_faults text tree` are the errors of `tree`, a policy's tree over `text`: those of repeated annotations, then
-- those of its conditions.
abbrev pub tree_faults : List ℕ → PolicyTree → List DesugarFault
tree_faults text tree = repeat_faults (annotation_keys text tree) ++ condition_faults text tree.conditions

-- `file_faults text trees names` are the errors of `trees`, the trees of a file `text`, with the names `names`: those
-- of repeated names, then those of each tree.
abbrev pub file_faults : List ℕ → List PolicyTree → List (List ℕ) → List DesugarFault
file_faults text trees names = repeat_faults (policy_names names trees) ++ flat_map (tree_faults text) trees

-- `IsPolicyOf text tree policy` holds if `tree` has no errors, and `policy` is its policy and within the limits.
pub record IsPolicyOf (text : List ℕ) (tree : PolicyTree) (policy : Policy) : Type 0 where
  pub sound : tree_faults text tree ≡ []
  pub core : IsCoreOf text tree policy
  pub small : IsSmallPolicy policy

-- `ArePoliciesOf text trees names policies` holds if `trees`, those of a file, have the names `names` and the policies
-- `policies`, and have no errors. The policies are also within the limits, and each name is an id.
pub record ArePoliciesOf (text : List ℕ) (trees : List PolicyTree) (names : List (List ℕ)) (policies : List Policy) :
    Type 0 where
  pub named : AreNamesOf text trees names
  pub sound : file_faults text trees names ≡ []
  pub cores : AreCoresOf text trees policies
  pub small : AllByRecursion IsSmallPolicy policies
  pub ids : All IsId names

-- `IsUidText text uid` holds if `text` is parsed as `uid`.
pub record IsUidText (text : List ℕ) (uid : EntityUid) : Type 0 where
  pub tree : UidTree
  pub derives : Derives grammar.uid most_policy_bytes text tree
  pub is : IsUidOf text tree uid

-- `IsPolicyText text policy` holds if `text` is parsed as `policy`.
pub record IsPolicyText (text : List ℕ) (policy : Policy) : Type 0 where
  pub tree : PolicyTree
  pub derives : Derives (grammar.policy nesting_limit) most_policy_bytes text tree
  pub is : IsPolicyOf text tree policy

-- `IsPolicyFile text names policies` holds if `text` is parsed as a file of `policies` with the names `names`.
pub record IsPolicyFile (text : List ℕ) (names : List (List ℕ)) (policies : List Policy) : Type 0 where
  pub trees : List PolicyTree
  pub derives : Derives (grammar.policies nesting_limit) most_file_bytes text trees
  pub are : ArePoliciesOf text trees names policies

-- The following definitions have the errors in the order in which they are checked: each is reported only if the text
-- has none of the earlier ones. `NoMemory` is not among them, since it does not depend on the text.

-- `IsReportedOf faults why` holds if `why` is the reported error of `faults`: the first of the errors at the least
-- offset.
pub record IsReportedOf (faults : List DesugarFault) (why : ReadFault) : Type 0 where
  pub fault : DesugarFault
  pub first : least faults ≡ Some fault
  pub told : why ≡ of_desugaring fault

-- `IsOverLimit text tree why` holds if the policy of `tree` is over 1,000 high or has over 1,000,000 nodes, and `why`
-- is `TooDeep` at byte 0.
abbrev pub IsOverLimit : List ℕ → PolicyTree → ReadFault → Type 0
IsOverLimit text tree (fault.TooDeep at) = (IsSmallTree text tree → ⊥) × (at ≡ 0)
IsOverLimit text tree _ = ⊥

-- `AreOverLimits text trees names why` holds if `why` is `TooDeep` at byte 0, and some policy of `trees` is over the
-- limits of height and nodes. It also holds if `why` is `BadId`, no policy of `trees` is over these limits, and one of
-- `names` is not an id.
abbrev pub AreOverLimits : List ℕ → List PolicyTree → List (List ℕ) → ReadFault → Type 0
AreOverLimits text trees names (fault.TooDeep at) = (AllByRecursion (IsSmallTree text) trees → ⊥) × (at ≡ 0)
AreOverLimits text trees names fault.BadId = AllByRecursion (IsSmallTree text) trees × (All IsId names → ⊥)
AreOverLimits text trees names _ = ⊥

-- `HasNoPolicy text tree why` holds if `why` is the reported error of `tree`; or if `tree` has no error, but its policy
-- is over the limits, and `why` reports this.
abbrev pub HasNoPolicy : List ℕ → PolicyTree → ReadFault → Type 0
HasNoPolicy text tree why =
    IsReportedOf (tree_faults text tree) why ⊎ ((tree_faults text tree ≡ []) × IsOverLimit text tree why)

-- `HaveNoPolicies text trees names why` holds if `why` is the error of `trees`, the trees of a file, with the names
-- `names`. This is the reported error of a tree or of a repeated name; else that of a policy over the limits; else that
-- of a name that is not an id.
abbrev pub HaveNoPolicies : List ℕ → List PolicyTree → List (List ℕ) → ReadFault → Type 0
HaveNoPolicies text trees names why =
    IsReportedOf (file_faults text trees names) why
    ⊎ ((file_faults text trees names ≡ []) × AreOverLimits text trees names why)

-- `IsUidRefused text why` holds if `text` is not a uid, with the error `why`.
abbrev pub IsUidRefused : List ℕ → ReadFault → Type 0
IsUidRefused = IsUnread grammar.uid grammar.uid most_policy_bytes

-- `IsPolicyRefused text why` holds if `text` is not a policy, with the error `why`.
abbrev pub IsPolicyRefused : List ℕ → ReadFault → Type 0
IsPolicyRefused text why =
    IsUnread (grammar.policy nesting_limit) (at_any grammar.policy) most_policy_bytes text why
    ⊎ ((tree : PolicyTree) × Derives (grammar.policy nesting_limit) most_policy_bytes text tree
    × HasNoPolicy text tree why)

-- `IsFileRefused text why` holds if `text` is not a file of policies, with the error `why`.
abbrev pub IsFileRefused : List ℕ → ReadFault → Type 0
IsFileRefused text why =
    IsUnread (grammar.policies nesting_limit) (at_any grammar.policies) most_file_bytes text why
    ⊎ ((trees : List PolicyTree) × (names : List (List ℕ))
    × Derives (grammar.policies nesting_limit) most_file_bytes text trees × AreNamesOf text trees names
    × HaveNoPolicies text trees names why)
