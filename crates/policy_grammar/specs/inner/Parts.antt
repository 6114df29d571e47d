-- Defines the relations and tests in the contracts of the parser's private functions. In each definition `text` is the
-- text that the trees' tokens are in.
use Rattle.std.specs.Prelude.{◌≡◌, ◌≢◌, ◌↔◌, ◌&&◌, ◌||◌, ◌==◌, Bool, false, IsTrue, ℕ, List, [], ◌∷◌, ◌++◌}
use Rattle.std.specs.Prelude.{is_some, find, codes, if◌then◌else◌}
use Rattle.std.specs.List.{AllByRecursion, flat_map, starts_with}
use Rattle.grammar_desugaring.specs.grammar_syntax.Lexing.{quote, backslash}
use Rattle.grammar_parsing.specs.declared.tree.Condition.{Condition}
use Rattle.grammar_parsing.specs.declared.tree.PolicyTree.{PolicyTree}
use Rattle.grammar_desugaring.specs.Faults.{faults_of}
use Rattle.grammar_desugaring.specs.ReportedErrors.{least}
use Rattle.grammar_desugaring.specs.Repeats.{NameAt}
use Rattle.policy_grammar.specs.declared.tree_check.TreeCheck.{TreeCheck}
use Rattle.policy_grammar.specs.Limits.{IsSmallTree}
use Rattle.policy_grammar.specs.PolicyText.{tree_faults}
use Rattle.policy_grammar.specs.CoreOf.{is_id}
use Rattle.policy_grammar.specs.Repeats.{start_of}

-- `has_id text tree` tests whether the policy `tree` has an `@id`.
abbrev pub has_id : List ℕ → PolicyTree → Bool
has_id text tree = is_some (find (is_id text) tree.annotations)

-- `has_index_prefix text name tree` tests whether the policy `tree` has an `@id`, and its name `name` begins with
-- `policy`, as names by index do.
abbrev pub has_index_prefix : List ℕ → List ℕ → PolicyTree → Bool
has_index_prefix text name tree = has_id text tree && starts_with (λ a b. a == b) name (codes "policy")

-- `some_index_name text names trees` tests whether `has_index_prefix` holds of some policy of `trees`, with its name in
-- `names`. That name may then equal another policy's name by index.
abbrev pub some_index_name : List ℕ → List (List ℕ) → List PolicyTree → Bool
some_index_name text [] trees = false
some_index_name text (name ∷ names) [] = false
some_index_name text (name ∷ names) (tree ∷ trees) =
    has_index_prefix text name tree || some_index_name text names trees

-- `kept keep mark marks` is `marks`, with `mark` in front if `keep` is true.
abbrev pub kept : Bool → NameAt → List NameAt → List NameAt
kept keep mark marks = if keep then mark ∷ marks else marks

-- `names_to_compare text wide names trees` are the names that may equal another policy's name, among the names `names`
-- of the policies `trees`. They are those of the policies that have an `@id`, or of all policies if `wide` is true.
-- Each has the offset of its policy's first token.
abbrev pub names_to_compare : List ℕ → Bool → List (List ℕ) → List PolicyTree → List NameAt
names_to_compare text wide [] trees = []
names_to_compare text wide (name ∷ names) [] = []
names_to_compare text wide (name ∷ names) (tree ∷ trees) =
    kept (wide || has_id text tree) (record { name = name; at = start_of tree })
    (names_to_compare text wide names trees)

-- `AreSound text conditions` holds if each of the conditions `conditions` is without errors.
abbrev pub AreSound : List ℕ → List Condition → Type 0
AreSound text = AllByRecursion (λ c. faults_of text c.expression ≡ [])

-- `ReportsPolicy text tree tree_check` holds if `tree_check` has the reported error of `tree`, a policy's tree, and
-- says whether the policy is within the limits.
pub record ReportsPolicy (text : List ℕ) (tree : PolicyTree) (tree_check : TreeCheck) : Type 0 where
  pub fault : tree_check.fault ≡ least (tree_faults text tree)
  pub small : IsTrue tree_check.small ↔ IsSmallTree text tree

-- `ReportsFile text trees tree_check` holds if `tree_check` has the reported error of `trees`, the trees of a file, not
-- counting repeated policy names, and says whether all policies are within the limits.
pub record ReportsFile (text : List ℕ) (trees : List PolicyTree) (tree_check : TreeCheck) : Type 0 where
  pub fault : tree_check.fault ≡ least (flat_map (tree_faults text) trees)
  pub small : IsTrue tree_check.small ↔ AllByRecursion (IsSmallTree text) trees

-- `IsWrittenPlainly text name id` holds if `text` is `name::"id"` with nothing between its tokens, and each byte of
-- `id` denotes itself.
pub record IsWrittenPlainly (text name id : List ℕ) : Type 0 where
  pub whole : text ≡ name ++ codes "::\"" ++ id ++ codes "\""
  pub plain : AllByRecursion (λ b. (b ≢ quote) × (b ≢ backslash)) id
