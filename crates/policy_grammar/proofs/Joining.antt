-- Conditions joined from the last to the first.
use Rattle.std.proofs.Common.{◌≡◌, ℕ, ◌+◌, ◌<◌, List, [], ◌∷◌, length, drop, get_or, None, refl, sym, ◌∙◌, ap, subst}
use Rattle.std.proofs.Common.{arith}
use Rattle.std.proofs.lemmas.List.{append-nil, length-drop}
use Rattle.std.specs.List.{AllByRecursion, flat_map}
use Rattle.grammar_core.specs.declared.leaf.Literal.TheVariants as literal
use Rattle.grammar_core.specs.declared.expr.Expr.{Expr}
use Rattle.grammar_core.specs.declared.expr.Expr.TheVariants as core
use Rattle.grammar_parsing.specs.declared.tree.Condition.{Condition}
use Rattle.grammar_parsing.specs.declared.tree.PolicyTree.{PolicyTree}
use Rattle.grammar_parsing.specs.WellFormed.{WellFormedCondition}
use Rattle.grammar_desugaring.specs.declared.measure.Measure.{Measure}
use Rattle.grammar_desugaring.specs.Faults.{faults_of}
use Rattle.grammar_desugaring.specs.TreeMeasures.{of}
use Rattle.grammar_desugaring.specs.BuiltFrom.{IsBuiltFrom}
use Rattle.grammar_desugaring.specs.Sums.{leaf, paired, LiteralIsLeaf, AndIsPaired}
use Rattle.policy_grammar.proofs.Lists.{all-at, next, none-left, none-right}
use Rattle.policy_grammar.specs.PolicyExpression.{truth}
use Rattle.policy_grammar.specs.Conditions.{condition_of, conditions_of, condition_faults}
use Rattle.policy_grammar.specs.PolicyText.{tree_faults}
use Rattle.policy_grammar.specs.inner.Parts.{AreSound}

-- what is told of conditions
abbrev pub judged_from : List ℕ → List Condition → Measure
judged_from text cs = of (conditions_of text cs) (condition_faults text cs)

abbrev pub judged_one : List ℕ → Condition → Measure
judged_one text c = of (condition_of text c) (faults_of text c.expression)

-- of none
pub judged-none : LiteralIsLeaf → (text : List ℕ) (cs : List Condition) → length cs ≡ 0 → judged_from text cs ≡ leaf None
judged-none law text [] none = law (literal.Boolean _) []
judged-none law text (c ∷ cs) none = absurd (omega arith)

pub asks-none : (text : List ℕ) (cs : List Condition) → length cs ≡ 0 → conditions_of text cs ≡ truth
asks-none text [] none = refl
asks-none text (c ∷ cs) none = absurd (omega arith)

-- the last one, and one before others
one : (text : List ℕ) (c : Condition) (rest : List Condition) → length rest ≡ 0 → judged_from text (c ∷ rest) ≡ judged_one text c
one text c [] none = ap (of (condition_of text c)) (append-nil (faults_of text c.expression))
one text c (d ∷ rest) none = absurd (omega arith)

before : AndIsPaired → (text : List ℕ) (c : Condition) (rest : List Condition) → 0 < length rest → judged_from text (c ∷ rest) ≡ paired (judged_one text c) (judged_from text rest)
before law text c [] some = absurd (omega arith)
before law text c (d ∷ rest) some = law (condition_of text c) (conditions_of text (d ∷ rest)) (faults_of text c.expression) (condition_faults text (d ∷ rest))

asks-one : (text : List ℕ) (c : Condition) (rest : List Condition) → length rest ≡ 0 → conditions_of text (c ∷ rest) ≡ condition_of text c
asks-one text c [] none = refl
asks-one text c (d ∷ rest) none = absurd (omega arith)

asks-before : (text : List ℕ) (c : Condition) (rest : List Condition) → 0 < length rest → conditions_of text (c ∷ rest) ≡ core.And (condition_of text c) (conditions_of text rest)
asks-before text c [] some = absurd (omega arith)
asks-before text c (d ∷ rest) some = refl

-- how many are left
none_over : {A : Type 0} (xs : List A) (i : ℕ) → i ≡ length xs → length (drop i xs) ≡ 0
none_over xs i all = omega (arith, length-drop i xs)

some_over : {A : Type 0} (xs : List A) (i : ℕ) → i < length xs → 0 < length (drop i xs)
some_over xs i below = omega (arith, length-drop i xs)

-- the conditions from one of them on
from : (cs : List Condition) (i j : ℕ) (c : Condition) → j + 1 ≡ i → j < length cs → c ≡ get_or cs j c → drop j cs ≡ c ∷ drop i cs
from cs i j c e below is = next cs j c below ∙ ap (λ k. get_or cs j c ∷ drop k cs) e ∙ ap (λ x. x ∷ drop i cs) (sym is)

module _ (text : List ℕ) (cs : List Condition) (i j : ℕ) (c : Condition) (e : j + 1 ≡ i) (is : c ≡ get_or cs j c) where
  pub judged-last : i ≡ length cs → judged_from text (drop j cs) ≡ judged_one text c
  judged-last all = ap (judged_from text) (from cs i j c e (omega arith) is) ∙ one text c (drop i cs) (none_over cs i all)

  pub judged-before : AndIsPaired → i < length cs → judged_from text (drop j cs) ≡ paired (judged_one text c) (judged_from text (drop i cs))
  judged-before law below = ap (judged_from text) (from cs i j c e (omega arith) is) ∙ before law text c (drop i cs) (some_over cs i below)

  pub asks-last : i ≡ length cs → conditions_of text (drop j cs) ≡ condition_of text c
  asks-last all = ap (conditions_of text) (from cs i j c e (omega arith) is) ∙ asks-one text c (drop i cs) (none_over cs i all)

  pub asks-more : i < length cs → conditions_of text (drop j cs) ≡ core.And (condition_of text c) (conditions_of text (drop i cs))
  asks-more below = ap (conditions_of text) (from cs i j c e (omega arith) is) ∙ asks-before text c (drop i cs) (some_over cs i below)

-- a condition stands where all do
pub is_well_formed-at : (text : List ℕ) (cs : List Condition) (i : ℕ) (c : Condition) → IsBuiltFrom text (λ ts. AllByRecursion (WellFormedCondition ts) cs) → i < length cs → c ≡ get_or cs i c →
    IsBuiltFrom text (λ ts. WellFormedCondition ts c)
is_well_formed-at text cs i c all below is = record {
  tokens = all.tokens;
  spelled = all.spelled;
  is_well_formed = subst (WellFormedCondition all.tokens) (sym is) (all-at (WellFormedCondition all.tokens) cs i c all.is_well_formed below);
}

-- where there are no faults together, there are none of each

none-each : {X A : Type 0} (f : X → List A) (xs : List X) → flat_map f xs ≡ [] → AllByRecursion (λ x. f x ≡ []) xs
none-each f [] none = tt
none-each f (x ∷ xs) none = (none-left (f x) (flat_map f xs) none, none-each f xs (none-right (f x) (flat_map f xs) none))

pub sound-each : (text : List ℕ) (cs : List Condition) → condition_faults text cs ≡ [] → AreSound text cs
sound-each text cs none = none-each (λ c. faults_of text c.expression) cs none

pub sound-tree : (text : List ℕ) (tree : PolicyTree) → tree_faults text tree ≡ [] → condition_faults text tree.conditions ≡ []
sound-tree text tree none = none-right _ (condition_faults text tree.conditions) none

pub sound-all : (text : List ℕ) (trees : List PolicyTree) → flat_map (tree_faults text) trees ≡ [] → AllByRecursion (λ tree. condition_faults text tree.conditions ≡ []) trees
sound-all text [] none = tt
sound-all text (tree ∷ trees) none = (
  sound-tree text tree (none-left (tree_faults text tree) (flat_map (tree_faults text) trees) none),
  sound-all text trees (none-right (tree_faults text tree) (flat_map (tree_faults text) trees) none),
)
