-- The count of each form of tree: the equations of `tree_count`.
use Rattle.std.specs.Prelude.{◌≡◌, ◌⊎◌, refl, ℕ, ◌+◌, Bool, List, [], ◌∷◌, map}
use mathlib.Core.Path.{◌∙◌, ap, sym}
use Rattle.std.proofs.Common.{inl, inr}
use Rattle.grammar_syntax.specs.declared.token.Token.{Token}
use Rattle.grammar_syntax.specs.declared.name_trees.PathTree.{PathTree}
use Rattle.grammar_syntax.specs.declared.name_trees.UidTree.{UidTree}
use Rattle.grammar_syntax.specs.declared.tree.Access.{Access}
use Rattle.grammar_syntax.specs.declared.tree.Access.TheVariants as access
use Rattle.grammar_syntax.specs.declared.tree.Comparison.{Comparison}
use Rattle.grammar_syntax.specs.declared.tree.RecordEntry.{RecordEntry}
use Rattle.grammar_syntax.specs.declared.tree.KeyTree.{KeyTree}
use Rattle.grammar_syntax.specs.declared.tree.KeyTree.TheVariants.{Word, Quoted}
use Rattle.grammar_syntax.specs.declared.tree.Term.{Term}
use Rattle.grammar_syntax.specs.declared.tree.ExprTree.{ExprTree}
use Rattle.grammar_syntax.specs.declared.tree.RequestKeyword.{RequestKeyword}
use Rattle.grammar_syntax.specs.declared.tree.ExprTree.TheVariants as t
use Rattle.grammar_syntax.specs.declared.tree.ExprTree.TheOpen.{ExprTree-F as tree}
use Rattle.grammar_syntax.specs.declared.tree.ExprTree.TheFolds.{fold-roll-ExprTree}
use Rattle.fault_places.specs.TokenCounts.{path_count, uid_count, total, each_count, row_count, access_count, entry_items}
use Rattle.fault_places.specs.TokenCounts.{count_step, tree_count, access_tree_count, term_count, entry_count}

map_each : {A B C : Type 0} (g : B → C) (h : A → C) (f : A → B) → ((x : A) → g (f x) ≡ h x) → (xs : List A) → map g (map f xs) ≡ map h xs
map_each g h f each [] = refl
map_each g h f each (x ∷ xs) = ap (λ y. y ∷ map g (map f xs)) (each x) ∙ ap (λ ys. h x ∷ ys) (map_each g h f each xs)

map_accesses : {B C : Type 0} (g : B → C) (h : Access (List ExprTree) → C) (f : Access (List ExprTree) → B) → ((key : KeyTree) → g (f (access.Field key)) ≡ h (access.Field key)) →
    ((name : Token) (arguments : List ExprTree) → g (f (access.Method name arguments)) ≡ h (access.Method name arguments)) →
    (xs : List (Access (List ExprTree))) → map g (map f xs) ≡ map h xs
map_accesses g h f field method [] = refl
map_accesses g h f field method (access.Field key ∷ xs) = ap (λ y. y ∷ map g (map f xs)) (field key) ∙ ap (λ ys. h (access.Field key) ∷ ys) (map_accesses g h f field method xs)
map_accesses g h f field method (access.Method name arguments ∷ xs) =
    ap (λ y. y ∷ map g (map f xs)) (method name arguments) ∙ ap (λ ys. h (access.Method name arguments) ∷ ys) (map_accesses g h f field method xs)

of_key : (key : KeyTree) → access_count (access.Field key) ≡ access_tree_count (access.Field key)
of_key (Word word) = refl
of_key (Quoted quoted) = refl

pub count-Boolean : (value : Bool) → tree_count (t.Boolean value) ≡ 1
count-Boolean value = ap tree_count (sym (t.rolls-Boolean value)) ∙ fold-roll-ExprTree ℕ count_step (tree.Boolean value)

pub count-Number : (token : Token) → tree_count (t.Number token) ≡ 1
count-Number token = ap tree_count (sym (t.rolls-Number token)) ∙ fold-roll-ExprTree ℕ count_step (tree.Number token)

pub count-Text : (token : Token) → tree_count (t.Text token) ≡ 1
count-Text token = ap tree_count (sym (t.rolls-Text token)) ∙ fold-roll-ExprTree ℕ count_step (tree.Text token)

pub count-Variable : (variable : RequestKeyword) → tree_count (t.Variable variable) ≡ 1
count-Variable variable = ap tree_count (sym (t.rolls-Variable variable)) ∙ fold-roll-ExprTree ℕ count_step (tree.Variable variable)

pub count-Uid : (uid : UidTree) → tree_count (t.Uid uid) ≡ uid_count uid
count-Uid uid = ap tree_count (sym (t.rolls-Uid uid)) ∙ fold-roll-ExprTree ℕ count_step (tree.Uid uid)

pub count-Call : (path : PathTree) (arguments : List ExprTree) → tree_count (t.Call path arguments) ≡ (path_count path + 1) + row_count (map tree_count arguments)
count-Call path arguments = ap tree_count (sym (t.rolls-Call path arguments)) ∙ fold-roll-ExprTree ℕ count_step (tree.Call path arguments)

pub count-Parentheses : (a : ExprTree) → tree_count (t.Parentheses a) ≡ 1 + tree_count a + 1
count-Parentheses a = ap tree_count (sym (t.rolls-Parentheses a)) ∙ fold-roll-ExprTree ℕ count_step (tree.Parentheses a)

pub count-Set : (members : List ExprTree) → tree_count (t.Set members) ≡ 1 + row_count (map tree_count members)
count-Set members = ap tree_count (sym (t.rolls-Set members)) ∙ fold-roll-ExprTree ℕ count_step (tree.Set members)

pub count-Record : (entries : List (RecordEntry ExprTree)) → tree_count (t.Record entries) ≡ 1 + row_count (map entry_count entries)
count-Record entries = ap tree_count (sym (t.rolls-Record entries)) ∙ fold-roll-ExprTree ℕ count_step (tree.Record entries)
    ∙ ap (λ ns. 1 + row_count ns) (map_each entry_items entry_count _ (λ entry. refl) entries)

pub count-Member : (a : ExprTree) (accesses : List (Access (List ExprTree))) → tree_count (t.Member a accesses) ≡ tree_count a + total (map access_tree_count accesses)
count-Member a accesses = ap tree_count (sym (t.rolls-Member a accesses)) ∙ fold-roll-ExprTree ℕ count_step (tree.Member a accesses)
    ∙ ap (λ ns. tree_count a + total ns) (map_accesses access_count access_tree_count _ of_key (λ name arguments. refl) accesses)

pub count-Not : (a : ExprTree) → tree_count (t.Not a) ≡ 1 + tree_count a
count-Not a = ap tree_count (sym (t.rolls-Not a)) ∙ fold-roll-ExprTree ℕ count_step (tree.Not a)

pub count-Minus : (a : ExprTree) → tree_count (t.Minus a) ≡ 1 + tree_count a
count-Minus a = ap tree_count (sym (t.rolls-Minus a)) ∙ fold-roll-ExprTree ℕ count_step (tree.Minus a)

pub count-Product : (a : ExprTree) (more : List ExprTree) → tree_count (t.Product a more) ≡ tree_count a + each_count (map tree_count more)
count-Product a more = ap tree_count (sym (t.rolls-Product a more)) ∙ fold-roll-ExprTree ℕ count_step (tree.Product a more)

pub count-Sum : (a : ExprTree) (terms : List (Term ExprTree)) → tree_count (t.Sum a terms) ≡ tree_count a + each_count (map term_count terms)
count-Sum a terms = ap tree_count (sym (t.rolls-Sum a terms)) ∙ fold-roll-ExprTree ℕ count_step (tree.Sum a terms)
    ∙ ap (λ ns. tree_count a + each_count ns) (map_each (λ term. term.operand) term_count _ (λ term. refl) terms)

pub count-Compare : (a : ExprTree) (operator : Comparison) (b : ExprTree) → tree_count (t.Compare a operator b) ≡ (tree_count a + 1) + tree_count b
count-Compare a operator b = ap tree_count (sym (t.rolls-Compare a operator b)) ∙ fold-roll-ExprTree ℕ count_step (tree.Compare a operator b)

pub count-Has : (a : ExprTree) (key : KeyTree) → tree_count (t.Has a key) ≡ tree_count a + 2
count-Has a key = ap tree_count (sym (t.rolls-Has a key)) ∙ fold-roll-ExprTree ℕ count_step (tree.Has a key)

pub count-Like : (a : ExprTree) (token : Token) → tree_count (t.Like a token) ≡ tree_count a + 2
count-Like a token = ap tree_count (sym (t.rolls-Like a token)) ∙ fold-roll-ExprTree ℕ count_step (tree.Like a token)

pub count-Is : (a : ExprTree) (path : PathTree) → tree_count (t.Is a path) ≡ (tree_count a + 1) + path_count path
count-Is a path = ap tree_count (sym (t.rolls-Is a path)) ∙ fold-roll-ExprTree ℕ count_step (tree.Is a path)

pub count-IsIn : (a : ExprTree) (path : PathTree) (b : ExprTree) → tree_count (t.IsIn a path b) ≡ ((tree_count a + 1) + path_count path + 1) + tree_count b
count-IsIn a path b = ap tree_count (sym (t.rolls-IsIn a path b)) ∙ fold-roll-ExprTree ℕ count_step (tree.IsIn a path b)

pub count-And : (a : ExprTree) (more : List ExprTree) → tree_count (t.And a more) ≡ tree_count a + each_count (map tree_count more)
count-And a more = ap tree_count (sym (t.rolls-And a more)) ∙ fold-roll-ExprTree ℕ count_step (tree.And a more)

pub count-Or : (a : ExprTree) (more : List ExprTree) → tree_count (t.Or a more) ≡ tree_count a + each_count (map tree_count more)
count-Or a more = ap tree_count (sym (t.rolls-Or a more)) ∙ fold-roll-ExprTree ℕ count_step (tree.Or a more)

pub count-If : (a b c : ExprTree) → tree_count (t.If a b c) ≡ ((1 + tree_count a + 1) + tree_count b + 1) + tree_count c
count-If a b c = ap tree_count (sym (t.rolls-If a b c)) ∙ fold-roll-ExprTree ℕ count_step (tree.If a b c)

-- forms with equal counts
pub count-chain : (x a : ExprTree) (more : List ExprTree) → x ≡ t.Product a more ⊎ x ≡ t.And a more ⊎ x ≡ t.Or a more
    → tree_count x ≡ tree_count a + each_count (map tree_count more)
count-chain x a more (inl is) = ap tree_count is ∙ count-Product a more
count-chain x a more (inr (inl is)) = ap tree_count is ∙ count-And a more
count-chain x a more (inr (inr is)) = ap tree_count is ∙ count-Or a more

pub count-prefix : (x a : ExprTree) → x ≡ t.Not a ⊎ x ≡ t.Minus a → tree_count x ≡ 1 + tree_count a
count-prefix x a (inl is) = ap tree_count is ∙ count-Not a
count-prefix x a (inr is) = ap tree_count is ∙ count-Minus a

pub count-postfix : (x a : ExprTree) → ((key : KeyTree) × x ≡ t.Has a key) ⊎ ((token : Token) × x ≡ t.Like a token) → tree_count x ≡ tree_count a + 2
count-postfix x a (inl (key, is)) = ap tree_count is ∙ count-Has a key
count-postfix x a (inr (token, is)) = ap tree_count is ∙ count-Like a token
