-- A form seen by its tree.
use Rattle.std.proofs.Common.{◌≡◌, ◌⊎◌, inl, inr, ℕ, ◌-◌, ◌==◌, false, cond, refl, ap, ◌∙◌, sym, List, Option, Some, None, drop, take, map, length, arith}
use Rattle.std.proofs.lemmas.Bool.Decides.{nat_tests}
use Rattle.grammar_syntax.specs.declared.token.Token.{Token}
use Rattle.grammar_syntax.specs.declared.name_trees.PathTree.{PathTree}
use Rattle.grammar_syntax.specs.declared.tree.Access.{Access}
use Rattle.grammar_syntax.specs.declared.name_trees.UidTree.{UidTree}
use Rattle.grammar_syntax.specs.declared.tree.Comparison.{Comparison}
use Rattle.grammar_syntax.specs.declared.tree.KeyTree.{KeyTree}
use Rattle.grammar_syntax.specs.declared.tree.RecordEntry.{RecordEntry}
use Rattle.grammar_syntax.specs.declared.tree.Term.{Term}
use Rattle.grammar_syntax.specs.declared.tree.ExprTree.{ExprTree, out-ExprTree, roll-ExprTree, roll-out-ExprTree, map-ExprTree}
use Rattle.grammar_syntax.specs.declared.tree.ExprTree.{fold_out-ExprTree}
use Rattle.grammar_syntax.specs.declared.tree.ExprTree.TheVariants as t
use Rattle.grammar_syntax.specs.declared.tree.ExprTree.TheOpen.{ExprTree-F as tree}
use Rattle.fault_places.specs.TokenCounts.{tree_count, count_step, each_count}
use Rattle.fault_places.specs.declared.forms.FormNode.{FormNode}
use Rattle.fault_places.specs.declared.forms.FormNode.TheVariants as part
use Rattle.fault_places.specs.Forms.{Form, operand_step, tokens_after_step, tokens_after_test, minus_operand, only_operand_at, left_at, chain_at, piece_at, access_at, member_at, kept}

-- an operand of a form whose tree is this one
pub seen : (x v : ExprTree) (y : tree ExprTree) (f : Form) (i : ℕ) → x ≡ v → out-ExprTree v ≡ y → operand_step y f i ≡ operand_step (out-ExprTree x) f i
seen x v y f i is outs = ap (λ z. operand_step z f i) (sym (ap out-ExprTree is ∙ outs))

-- the forms that are chains, and those before a word
pub seen-chain : (x a : ExprTree) (more : List ExprTree) (f : Form) (i : ℕ) → x ≡ t.Product a more ⊎ x ≡ t.And a more ⊎ x ≡ t.Or a more
    → chain_at f a (piece_at a more f.tokens) (kept f.part (length more)) i ≡ operand_step (out-ExprTree x) f i
seen-chain x a more f i (inl is) = seen x (t.Product a more) (tree.Product a more) f i is (t.outs-Product a more)
seen-chain x a more f i (inr (inl is)) = seen x (t.And a more) (tree.And a more) f i is (t.outs-And a more)
seen-chain x a more f i (inr (inr is)) = seen x (t.Or a more) (tree.Or a more) f i is (t.outs-Or a more)

pub seen-postfix : (x a : ExprTree) (f : Form) (i : ℕ)
    → ((key : KeyTree) × x ≡ t.Has a key) ⊎ ((token : Token) × x ≡ t.Like a token) ⊎ ((path : PathTree) × x ≡ t.Is a path)
    → only_operand_at a f.tokens i ≡ operand_step (out-ExprTree x) f i
seen-postfix x a f i (inl (key, is)) = seen x (t.Has a key) (tree.Has a key) f i is (t.outs-Has a key)
seen-postfix x a f i (inr (inl (token, is))) = seen x (t.Like a token) (tree.Like a token) f i is (t.outs-Like a token)
seen-postfix x a f i (inr (inr (path, is))) = seen x (t.Is a path) (tree.Is a path) f i is (t.outs-Is a path)

-- the tokens behind it
pub seen_behind : (x v : ExprTree) (y : tree ExprTree) (f : Form) → x ≡ v → out-ExprTree v ≡ y → tokens_after_step y f ≡ tokens_after_step (out-ExprTree x) f
seen_behind x v y f is outs = ap (λ z. tokens_after_step z f) (sym (ap out-ExprTree is ∙ outs))

pub seen_behind-chain : (x a : ExprTree) (more : List ExprTree) (f : Form) → x ≡ t.Product a more ⊎ x ≡ t.And a more ⊎ x ≡ t.Or a more
    → drop (each_count (map tree_count (take (kept f.part (length more)) more))) (drop (tree_count a) f.tokens)
    ≡ tokens_after_step (out-ExprTree x) f
seen_behind-chain x a more f (inl is) = seen_behind x (t.Product a more) (tree.Product a more) f is (t.outs-Product a more)
seen_behind-chain x a more f (inr (inl is)) = seen_behind x (t.And a more) (tree.And a more) f is (t.outs-And a more)
seen_behind-chain x a more f (inr (inr is)) = seen_behind x (t.Or a more) (tree.Or a more) f is (t.outs-Or a more)

-- a tree that is no number
no_number : (y : tree ExprTree) (a : ExprTree) (ts : List Token) (i : ℕ) → ((token : Token) → y ≡ tree.Number token → ⊥) → only_operand_at a ts i ≡ minus_operand y a ts i
no_number (tree.Number token) a ts i other = absurd (other token refl)
no_number y a ts i other = refl

pub minus_operand-other : (a : ExprTree) (ts : List Token) (i : ℕ) → ((token : Token) → a ≡ t.Number token → ⊥) → only_operand_at a ts i ≡ minus_operand (out-ExprTree a) a ts i
minus_operand-other a ts i other =
    no_number (out-ExprTree a) a ts i (λ token h. other token (sym (roll-out-ExprTree a) ∙ ap roll-ExprTree h ∙ t.rolls-Number token))

-- a tree that is no chain, and no test
no_chain : (y : tree ExprTree) (f : Form)
    → ((a : ExprTree) (more : List (Access (List ExprTree))) → y ≡ tree.Member a more → ⊥)
    → ((a : ExprTree) (more : List ExprTree) → y ≡ tree.Product a more → ⊥)
    → ((a : ExprTree) (more : List (Term ExprTree)) → y ≡ tree.Sum a more → ⊥)
    → ((a : ExprTree) (more : List ExprTree) → y ≡ tree.And a more → ⊥)
    → ((a : ExprTree) (more : List ExprTree) → y ≡ tree.Or a more → ⊥)
    → ((a : ExprTree) (path : PathTree) (b : ExprTree) → y ≡ tree.IsIn a path b → ⊥)
    → drop (tree_count f.tree) f.tokens ≡ tokens_after_step y f
no_chain (tree.Member a more) f m p s n o i = absurd (m a more refl)
no_chain (tree.Product a more) f m p s n o i = absurd (p a more refl)
no_chain (tree.Sum a more) f m p s n o i = absurd (s a more refl)
no_chain (tree.And a more) f m p s n o i = absurd (n a more refl)
no_chain (tree.Or a more) f m p s n o i = absurd (o a more refl)
no_chain (tree.IsIn a path b) f m p s n o i = absurd (i a path b refl)
no_chain y f m p s n o i = refl

again : (x v : ExprTree) (y : tree ExprTree) → roll-ExprTree y ≡ v → out-ExprTree x ≡ y → x ≡ v
again x v y rolls h = sym (roll-out-ExprTree x) ∙ ap roll-ExprTree h ∙ rolls

pub behind-other : (f : Form)
    → ((a : ExprTree) (more : List (Access (List ExprTree))) → f.tree ≡ t.Member a more → ⊥)
    → ((a : ExprTree) (more : List ExprTree) → f.tree ≡ t.Product a more → ⊥)
    → ((a : ExprTree) (more : List (Term ExprTree)) → f.tree ≡ t.Sum a more → ⊥)
    → ((a : ExprTree) (more : List ExprTree) → f.tree ≡ t.And a more → ⊥)
    → ((a : ExprTree) (more : List ExprTree) → f.tree ≡ t.Or a more → ⊥)
    → ((a : ExprTree) (path : PathTree) (b : ExprTree) → f.tree ≡ t.IsIn a path b → ⊥)
    → drop (tree_count f.tree) f.tokens ≡ tokens_after_step (out-ExprTree f.tree) f
behind-other f m p s n o i =
    no_chain (out-ExprTree f.tree) f
    (λ a more h. m a more (again f.tree (t.Member a more) (tree.Member a more) (t.rolls-Member a more) h))
    (λ a more h. p a more (again f.tree (t.Product a more) (tree.Product a more) (t.rolls-Product a more) h))
    (λ a more h. s a more (again f.tree (t.Sum a more) (tree.Sum a more) (t.rolls-Sum a more) h))
    (λ a more h. n a more (again f.tree (t.And a more) (tree.And a more) (t.rolls-And a more) h))
    (λ a more h. o a more (again f.tree (t.Or a more) (tree.Or a more) (t.rolls-Or a more) h))
    (λ a path b h. i a path b (again f.tree (t.IsIn a path b) (tree.IsIn a path b) (t.rolls-IsIn a path b) h))

-- a tree that has no operands but for parentheses
pub record IsLeaf (x : ExprTree) : Type 0 where
  pub not-Call : (path : PathTree) (arguments : List ExprTree) → x ≡ t.Call path arguments → ⊥
  pub not-Set : (members : List ExprTree) → x ≡ t.Set members → ⊥
  pub not-Record : (entries : List (RecordEntry ExprTree)) → x ≡ t.Record entries → ⊥
  pub not-Member : (a : ExprTree) (accesses : List (Access (List ExprTree))) → x ≡ t.Member a accesses → ⊥
  pub not-Not : (a : ExprTree) → x ≡ t.Not a → ⊥
  pub not-Minus : (a : ExprTree) → x ≡ t.Minus a → ⊥
  pub not-Product : (a : ExprTree) (more : List ExprTree) → x ≡ t.Product a more → ⊥
  pub not-Sum : (a : ExprTree) (terms : List (Term ExprTree)) → x ≡ t.Sum a terms → ⊥
  pub not-Compare : (a : ExprTree) (operator : Comparison) (b : ExprTree) → x ≡ t.Compare a operator b → ⊥
  pub not-Has : (a : ExprTree) (key : KeyTree) → x ≡ t.Has a key → ⊥
  pub not-Like : (a : ExprTree) (token : Token) → x ≡ t.Like a token → ⊥
  pub not-Is : (a : ExprTree) (path : PathTree) → x ≡ t.Is a path → ⊥
  pub not-IsIn : (a : ExprTree) (path : PathTree) (b : ExprTree) → x ≡ t.IsIn a path b → ⊥
  pub not-And : (a : ExprTree) (more : List ExprTree) → x ≡ t.And a more → ⊥
  pub not-Or : (a : ExprTree) (more : List ExprTree) → x ≡ t.Or a more → ⊥
  pub not-If : (a : ExprTree) (b : ExprTree) (d : ExprTree) → x ≡ t.If a b d → ⊥

leaf_step : (x : ExprTree) → IsLeaf x → (y : tree ExprTree) → out-ExprTree x ≡ y → (f : Form) (i : ℕ) → None ≡ operand_step y f i
leaf_step x h (tree.Call path arguments) e f i = absurd (h.not-Call path arguments (again x (t.Call path arguments) (tree.Call path arguments) (t.rolls-Call path arguments) e))
leaf_step x h (tree.Set members) e f i = absurd (h.not-Set members (again x (t.Set members) (tree.Set members) (t.rolls-Set members) e))
leaf_step x h (tree.Record entries) e f i = absurd (h.not-Record entries (again x (t.Record entries) (tree.Record entries) (t.rolls-Record entries) e))
leaf_step x h (tree.Member a accesses) e f i = absurd (h.not-Member a accesses (again x (t.Member a accesses) (tree.Member a accesses) (t.rolls-Member a accesses) e))
leaf_step x h (tree.Not a) e f i = absurd (h.not-Not a (again x (t.Not a) (tree.Not a) (t.rolls-Not a) e))
leaf_step x h (tree.Minus a) e f i = absurd (h.not-Minus a (again x (t.Minus a) (tree.Minus a) (t.rolls-Minus a) e))
leaf_step x h (tree.Product a more) e f i = absurd (h.not-Product a more (again x (t.Product a more) (tree.Product a more) (t.rolls-Product a more) e))
leaf_step x h (tree.Sum a terms) e f i = absurd (h.not-Sum a terms (again x (t.Sum a terms) (tree.Sum a terms) (t.rolls-Sum a terms) e))
leaf_step x h (tree.Compare a operator b) e f i = absurd (h.not-Compare a operator b (again x (t.Compare a operator b) (tree.Compare a operator b) (t.rolls-Compare a operator b) e))
leaf_step x h (tree.Has a key) e f i = absurd (h.not-Has a key (again x (t.Has a key) (tree.Has a key) (t.rolls-Has a key) e))
leaf_step x h (tree.Like a token) e f i = absurd (h.not-Like a token (again x (t.Like a token) (tree.Like a token) (t.rolls-Like a token) e))
leaf_step x h (tree.Is a path) e f i = absurd (h.not-Is a path (again x (t.Is a path) (tree.Is a path) (t.rolls-Is a path) e))
leaf_step x h (tree.IsIn a path b) e f i = absurd (h.not-IsIn a path b (again x (t.IsIn a path b) (tree.IsIn a path b) (t.rolls-IsIn a path b) e))
leaf_step x h (tree.And a more) e f i = absurd (h.not-And a more (again x (t.And a more) (tree.And a more) (t.rolls-And a more) e))
leaf_step x h (tree.Or a more) e f i = absurd (h.not-Or a more (again x (t.Or a more) (tree.Or a more) (t.rolls-Or a more) e))
leaf_step x h (tree.If a b d) e f i = absurd (h.not-If a b d (again x (t.If a b d) (tree.If a b d) (t.rolls-If a b d) e))
leaf_step x h y e f i = refl

pub operand-leaf : (f : Form) (i : ℕ) → IsLeaf f.tree → None ≡ operand_step (out-ExprTree f.tree) f i
operand-leaf f i h = leaf_step f.tree h (out-ExprTree f.tree) refl f i

leaf_count : (x : ExprTree) → IsLeaf x → ((uid : UidTree) → x ≡ t.Uid uid → ⊥) → ((a : ExprTree) → x ≡ t.Parentheses a → ⊥) → (y : tree ExprTree) → out-ExprTree x ≡ y
    → count_step (map-ExprTree ExprTree ℕ tree_count y) ≡ 1
leaf_count x h u p (tree.Call path arguments) e = absurd (h.not-Call path arguments (again x (t.Call path arguments) (tree.Call path arguments) (t.rolls-Call path arguments) e))
leaf_count x h u p (tree.Set members) e = absurd (h.not-Set members (again x (t.Set members) (tree.Set members) (t.rolls-Set members) e))
leaf_count x h u p (tree.Record entries) e = absurd (h.not-Record entries (again x (t.Record entries) (tree.Record entries) (t.rolls-Record entries) e))
leaf_count x h u p (tree.Member a accesses) e = absurd (h.not-Member a accesses (again x (t.Member a accesses) (tree.Member a accesses) (t.rolls-Member a accesses) e))
leaf_count x h u p (tree.Not a) e = absurd (h.not-Not a (again x (t.Not a) (tree.Not a) (t.rolls-Not a) e))
leaf_count x h u p (tree.Minus a) e = absurd (h.not-Minus a (again x (t.Minus a) (tree.Minus a) (t.rolls-Minus a) e))
leaf_count x h u p (tree.Product a more) e = absurd (h.not-Product a more (again x (t.Product a more) (tree.Product a more) (t.rolls-Product a more) e))
leaf_count x h u p (tree.Sum a terms) e = absurd (h.not-Sum a terms (again x (t.Sum a terms) (tree.Sum a terms) (t.rolls-Sum a terms) e))
leaf_count x h u p (tree.Compare a operator b) e = absurd (h.not-Compare a operator b (again x (t.Compare a operator b) (tree.Compare a operator b) (t.rolls-Compare a operator b) e))
leaf_count x h u p (tree.Has a key) e = absurd (h.not-Has a key (again x (t.Has a key) (tree.Has a key) (t.rolls-Has a key) e))
leaf_count x h u p (tree.Like a token) e = absurd (h.not-Like a token (again x (t.Like a token) (tree.Like a token) (t.rolls-Like a token) e))
leaf_count x h u p (tree.Is a path) e = absurd (h.not-Is a path (again x (t.Is a path) (tree.Is a path) (t.rolls-Is a path) e))
leaf_count x h u p (tree.IsIn a path b) e = absurd (h.not-IsIn a path b (again x (t.IsIn a path b) (tree.IsIn a path b) (t.rolls-IsIn a path b) e))
leaf_count x h u p (tree.And a more) e = absurd (h.not-And a more (again x (t.And a more) (tree.And a more) (t.rolls-And a more) e))
leaf_count x h u p (tree.Or a more) e = absurd (h.not-Or a more (again x (t.Or a more) (tree.Or a more) (t.rolls-Or a more) e))
leaf_count x h u p (tree.If a b d) e = absurd (h.not-If a b d (again x (t.If a b d) (tree.If a b d) (t.rolls-If a b d) e))
leaf_count x h u p (tree.Uid uid) e = absurd (u uid (again x (t.Uid uid) (tree.Uid uid) (t.rolls-Uid uid) e))
leaf_count x h u p (tree.Parentheses a) e = absurd (p a (again x (t.Parentheses a) (tree.Parentheses a) (t.rolls-Parentheses a) e))
leaf_count x h u p y e = refl

pub count-leaf : (x : ExprTree) → IsLeaf x → ((uid : UidTree) → x ≡ t.Uid uid → ⊥) → ((a : ExprTree) → x ≡ t.Parentheses a → ⊥) → tree_count x ≡ 1
count-leaf x h u p = fold_out-ExprTree ℕ count_step x ∙ leaf_count x h u p (out-ExprTree x) refl

-- the second operand of a chain, and an argument of a chain of accesses
pub chain-second : (f : Form) (a : ExprTree) (right : ℕ → Option Form) (n i before : ℕ) (o : Option Form) → i ≡ 1 → before ≡ n - 1 → o ≡ right before → o ≡ chain_at f a right n i
chain-second f a right n i before o one is found = found ∙ ap right is ∙ sym (ap (λ j. chain_at f a right n j) one)

not_zero : (i : ℕ) → (i ≡ 0 → ⊥) → (i == 0) ≡ false
not_zero i other = grind (arith, nat_tests)

pub member-argument : (f : Form) (a : ExprTree) (accesses : List (Access (List ExprTree))) (n i before : ℕ) (o : Option Form) → (i ≡ 0 → ⊥) → before ≡ n - 1
    → o ≡ access_at a accesses f.tokens before (i - 1) → o ≡ member_at f a accesses n i
member-argument f a accesses n i before o later is found =
    found ∙ ap (λ k. access_at a accesses f.tokens k (i - 1)) is
    ∙ ap (λ b. cond b (Some (left_at f a (n - 1))) (access_at a accesses f.tokens (n - 1) (i - 1))) (sym (not_zero i later))

-- a node that is no front of a chain, or no test
pub kept-other : (p : FormNode) (n : ℕ) → ((k : ℕ) → p ≡ part.First k → ⊥) → n ≡ kept p n
kept-other (part.First k) n other = absurd (other k refl)
kept-other p n other = refl

pub test-other : (p : FormNode) (f : Form) (a : ExprTree) (path : PathTree) (b : ExprTree) → (p ≡ part.Test → ⊥) → drop (tree_count f.tree) f.tokens ≡ tokens_after_test p f a path b
test-other part.Test f a path b other = absurd (other refl)
test-other p f a path b other = refl
