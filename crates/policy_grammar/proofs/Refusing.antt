-- From the refusal of trees to the refusal of their text.
use Rattle.std.proofs.Common.{◌≡◌, ◌↔◌, ℕ, Bool, true, false, IsTrue, List, length, Result, Ok, Err, IfOk, IfErr, ◌∙◌}
use Rattle.std.proofs.Common.{inr}
use Rattle.std.specs.List.{enumerate_from}
use Rattle.std.proofs.lemmas.List.FromFn.{length-enumerate_from}
use Rattle.std.proofs.lemmas.Slice.Zip.{AllZip-long}
use Rattle.grammar_parsing.specs.Expressions.{nesting_limit}
use Rattle.grammar_parsing.specs.declared.tree.PolicyTree.{PolicyTree}
use Rattle.grammar_parsing.specs.Grammar as grammar
use Rattle.policy_grammar.specs.declared.policy.Policy.{Policy}
use Rattle.policy_grammar.specs.declared.fault.ReadFault.{ReadFault}
use Rattle.policy_grammar.specs.declared.fault.ReadFault.TheVariants as fault
use Rattle.policy_grammar.specs.CoreOf.{IsNameOf, AreNamesOf}
use Rattle.policy_grammar.specs.Limits.{most_policy_bytes, most_file_bytes}
use Rattle.plain.specs.AllocationErrors.{OrNoMemory}
use Rattle.policy_grammar.specs.PolicyText.{Derives, HasNoPolicy, HaveNoPolicies, IsPolicyOf, IsPolicyText}
use Rattle.policy_grammar.specs.PolicyText.{IsPolicyRefused, IsFileRefused}

pub refuted : (P : Type 0) (b : Bool) → (IsTrue b ↔ P) → b ≡ false → P → ⊥
refuted P b iff no' p = let yes' : b ≡ true = iff.1 p in absurd (cc)

-- a name for each tree
pub names-long : (text : List ℕ) (trees : List PolicyTree) (names : List (List ℕ)) → AreNamesOf text trees names → length names ≡ length trees
names-long text trees names named =
    AllZip-long (λ (placed : ℕ × PolicyTree). IsNameOf text placed.0 placed.1) (enumerate_from 0 trees) names named ∙ length-enumerate_from 0 trees

pub policy_refused : {A : Type 0} (text : List ℕ) (tree : PolicyTree) → Derives (grammar.policy nesting_limit) most_policy_bytes text tree → (r : Result A ReadFault) →
    IfErr r (OrNoMemory fault.NoMemory (HasNoPolicy text tree)) → IfErr r (OrNoMemory fault.NoMemory (IsPolicyRefused text))
policy_refused text tree derives (Ok x) none = tt
policy_refused text tree derives (Err why) none = λ other. inr (tree, derives, none other)

pub policy_read : (text : List ℕ) (tree : PolicyTree) → Derives (grammar.policy nesting_limit) most_policy_bytes text tree → (r : Result Policy ReadFault) →
    IfOk r (IsPolicyOf text tree) → IfOk r (IsPolicyText text)
policy_read text tree derives (Ok policy) is = record { tree = tree; derives = derives; is = is }
policy_read text tree derives (Err why) is = tt

pub file-refused : {A : Type 0} (text : List ℕ) (trees : List PolicyTree) (names : List (List ℕ)) → Derives (grammar.policies nesting_limit) most_file_bytes text trees →
    AreNamesOf text trees names → (r : Result A ReadFault) → IfErr r (OrNoMemory fault.NoMemory (HaveNoPolicies text trees names)) → IfErr r (OrNoMemory fault.NoMemory (IsFileRefused text))
file-refused text trees names derives named (Ok x) none = tt
file-refused text trees names derives named (Err why) none = λ other. inr (trees, names, derives, named, none other)
