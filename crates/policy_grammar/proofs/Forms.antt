-- Trees of two texts that say the same: one rule a form.
use Rattle.std.proofs.Common.{◌≡◌, ℕ, Bool, List, [], ◌∷◌, map, refl, sym, ap, ◌∙◌}
use Rattle.std.specs.List.{AllZip, fold}
use Rattle.grammar_desugaring.specs.grammar_syntax.declared.token.Token.{Token}
use Rattle.grammar_desugaring.specs.grammar_syntax.Lexing.{spelling_of}
use Rattle.grammar_desugaring.specs.grammar_syntax.declared.name_trees.PathTree.{PathTree}
use Rattle.grammar_desugaring.specs.grammar_syntax.declared.name_trees.UidTree.{UidTree}
use Rattle.grammar_desugaring.specs.grammar_syntax.declared.tree.Access.{Access}
use Rattle.grammar_desugaring.specs.grammar_syntax.declared.tree.Access.TheVariants as access
use Rattle.grammar_desugaring.specs.grammar_syntax.declared.tree.Comparison.{Comparison}
use Rattle.grammar_desugaring.specs.grammar_syntax.declared.tree.RecordEntry.{RecordEntry}
use Rattle.grammar_desugaring.specs.grammar_syntax.declared.tree.KeyTree.{KeyTree}
use Rattle.grammar_desugaring.specs.grammar_syntax.declared.tree.RequestKeyword.{RequestKeyword}
use Rattle.grammar_desugaring.specs.grammar_syntax.declared.tree.Term.{Term}
use Rattle.grammar_desugaring.specs.grammar_syntax.declared.tree.ExprTree.{ExprTree}
use Rattle.grammar_desugaring.specs.grammar_syntax.declared.tree.ExprTree.TheVariants as t
use Rattle.grammar_desugaring.specs.grammar_syntax.declared.tree.ExprTree.TheOpen.{ExprTree-F as tree}
use Rattle.grammar_desugaring.specs.grammar_syntax.declared.tree.ExprTree.TheFolds.{fold-roll-ExprTree}
use Rattle.grammar_core.specs.declared.leaf.Literal.TheVariants as literal
use Rattle.grammar_core.specs.declared.operator.Unary.TheVariants.{Not, Like, Is}
use Rattle.grammar_core.specs.declared.operator.Binary.TheVariants.{In, Multiply}
use Rattle.grammar_core.specs.declared.expr.Expr.{Expr}
use Rattle.grammar_core.specs.declared.expr.Expr.TheVariants as core
use Rattle.grammar_desugaring.specs.Strings.{value_of, pattern_of}
use Rattle.grammar_desugaring.specs.Meaning.{variable_of, path_name, uid_of, name_of}
use Rattle.grammar_core.specs.Operators.{method_of}
use Rattle.grammar_desugaring.specs.Core.{Meaning, core_step, meaning, core_of, plain, number, compared}
use Rattle.grammar_desugaring.specs.Core.{accessed, added, field, in_term, in_entry, in_access, called, function}
use Rattle.grammar_desugaring.specs.Core.{method_called}
use Rattle.grammar_desugaring.proofs.Cores as known
use Rattle.policy_grammar.proofs.Kin.{Same}

-- lists of which each two say the same
pub same_maps : {A B C : Type 0} (f : A → C) (g : B → C) (xs : List A) (ys : List B) → AllZip (λ x y. f x ≡ g y) xs ys → map f xs ≡ map g ys
same_maps f g [] [] h = refl
same_maps f g [] (y ∷ ys) h = absurd h
same_maps f g (x ∷ xs) [] h = absurd h
same_maps f g (x ∷ xs) (y ∷ ys) h = λ i. h.0 i ∷ same_maps f g xs ys h.1 i

module _ (text part : List ℕ) where
  abbrev pub SameTree : ExprTree → ExprTree → Type 0
  SameTree x y = meaning text x ≡ meaning part y

  abbrev pub SamePath : PathTree → PathTree → Type 0
  SamePath p q = (path_name text p ≡ path_name part q) × (function text p ≡ function part q)

  abbrev pub SameUid : UidTree → UidTree → Type 0
  SameUid a b = uid_of text a ≡ uid_of part b

  abbrev pub SameKey : KeyTree → KeyTree → Type 0
  SameKey a b = name_of text a ≡ name_of part b

  abbrev pub SameEntry : RecordEntry ExprTree → RecordEntry ExprTree → Type 0
  SameEntry a b = SameKey a.key b.key × SameTree a.value b.value

  abbrev pub SameTerm : Term ExprTree → Term ExprTree → Type 0
  SameTerm a b = (a.sign ≡ b.sign) × SameTree a.operand b.operand

  abbrev pub SameAccess : Access (List ExprTree) → Access (List ExprTree) → Type 0
  SameAccess (access.Field a) (access.Field b) = SameKey a b
  SameAccess (access.Method m xs) (access.Method n ys) = Same text part m n × AllZip SameTree xs ys
  SameAccess _ _ = ⊥

  -- ---- trees

  -- two that stand for expressions by themselves
  plain_same : (x y : ExprTree) (e f : Expr) → meaning text x ≡ plain e → meaning part y ≡ plain f → core_of text x ≡ core_of part y → SameTree x y
  plain_same x y e f h k same = h ∙ ap plain (sym (ap (λ (m : Meaning). m.alone) h) ∙ same ∙ ap (λ (m : Meaning). m.alone) k) ∙ sym k

  cores : (xs ys : List ExprTree) → AllZip SameTree xs ys → map (core_of text) xs ≡ map (core_of part) ys
  cores [] [] h = refl
  cores [] (y ∷ ys) h = absurd h
  cores (x ∷ xs) [] h = absurd h
  cores (x ∷ xs) (y ∷ ys) h = λ i. (h.0 i).alone ∷ cores xs ys h.1 i

  pub same-Boolean : (a b : Bool) → a ≡ b → SameTree (t.Boolean a) (t.Boolean b)
  same-Boolean a b h =
      ap (meaning text) (sym (t.rolls-Boolean a)) ∙ fold-roll-ExprTree Meaning (core_step text) (tree.Boolean a) ∙ ap (λ v. plain (core.Literal (literal.Boolean v))) h
      ∙ sym (ap (meaning part) (sym (t.rolls-Boolean b)) ∙ fold-roll-ExprTree Meaning (core_step part) (tree.Boolean b))

  pub same-Number : (a b : Token) → Same text part a b → SameTree (t.Number a) (t.Number b)
  same-Number a b h =
      ap (meaning text) (sym (t.rolls-Number a)) ∙ fold-roll-ExprTree Meaning (core_step text) (tree.Number a) ∙ ap number h.spelled
      ∙ sym (ap (meaning part) (sym (t.rolls-Number b)) ∙ fold-roll-ExprTree Meaning (core_step part) (tree.Number b))

  pub same-Text : (a b : Token) → Same text part a b → SameTree (t.Text a) (t.Text b)
  same-Text a b h =
      ap (meaning text) (sym (t.rolls-Text a)) ∙ fold-roll-ExprTree Meaning (core_step text) (tree.Text a) ∙ ap (λ s. plain (core.Literal (literal.Text (value_of s)))) h.spelled
      ∙ sym (ap (meaning part) (sym (t.rolls-Text b)) ∙ fold-roll-ExprTree Meaning (core_step part) (tree.Text b))

  pub same-Variable : (a b : RequestKeyword) → a ≡ b → SameTree (t.Variable a) (t.Variable b)
  same-Variable a b h =
      ap (meaning text) (sym (t.rolls-Variable a)) ∙ fold-roll-ExprTree Meaning (core_step text) (tree.Variable a) ∙ ap (λ v. plain (core.Variable (variable_of v))) h
      ∙ sym (ap (meaning part) (sym (t.rolls-Variable b)) ∙ fold-roll-ExprTree Meaning (core_step part) (tree.Variable b))

  pub same-Uid : (a b : UidTree) → SameUid a b → SameTree (t.Uid a) (t.Uid b)
  same-Uid a b h =
      ap (meaning text) (sym (t.rolls-Uid a)) ∙ fold-roll-ExprTree Meaning (core_step text) (tree.Uid a) ∙ ap (λ v. plain (core.Literal (literal.Entity v))) h
      ∙ sym (ap (meaning part) (sym (t.rolls-Uid b)) ∙ fold-roll-ExprTree Meaning (core_step part) (tree.Uid b))

  pub same-Call : (p q : PathTree) (xs ys : List ExprTree) → SamePath p q → AllZip SameTree xs ys → SameTree (t.Call p xs) (t.Call q ys)
  same-Call p q xs ys h each =
      plain_same _ _ _ _ (ap (meaning text) (sym (t.rolls-Call p xs)) ∙ fold-roll-ExprTree Meaning (core_step text) (tree.Call p xs))
      (ap (meaning part) (sym (t.rolls-Call q ys)) ∙ fold-roll-ExprTree Meaning (core_step part) (tree.Call q ys))
      (known.core-Call text p xs ∙ (λ i. called (h.1 i) (cores xs ys each i)) ∙ sym (known.core-Call part q ys))

  pub same-Parentheses : (a b : ExprTree) → SameTree a b → SameTree (t.Parentheses a) (t.Parentheses b)
  same-Parentheses a b h =
      ap (meaning text) (sym (t.rolls-Parentheses a)) ∙ fold-roll-ExprTree Meaning (core_step text) (tree.Parentheses a) ∙ ap (λ (m : Meaning). plain m.alone) h
      ∙ sym (ap (meaning part) (sym (t.rolls-Parentheses b)) ∙ fold-roll-ExprTree Meaning (core_step part) (tree.Parentheses b))

  pub same-Set : (xs ys : List ExprTree) → AllZip SameTree xs ys → SameTree (t.Set xs) (t.Set ys)
  same-Set xs ys each =
      plain_same _ _ _ _ (ap (meaning text) (sym (t.rolls-Set xs)) ∙ fold-roll-ExprTree Meaning (core_step text) (tree.Set xs))
      (ap (meaning part) (sym (t.rolls-Set ys)) ∙ fold-roll-ExprTree Meaning (core_step part) (tree.Set ys))
      (known.core-Set text xs ∙ ap core.Set (cores xs ys each) ∙ sym (known.core-Set part ys))

  fields : (xs ys : List (RecordEntry ExprTree)) → AllZip SameEntry xs ys → map (field text) (map (in_entry (core_of text)) xs) ≡ map (field part) (map (in_entry (core_of part)) ys)
  fields [] [] h = refl
  fields [] (y ∷ ys) h = absurd h
  fields (x ∷ xs) [] h = absurd h
  fields (x ∷ xs) (y ∷ ys) h = λ i. record { name = h.0.0 i; value = (h.0.1 i).alone } ∷ fields xs ys h.1 i

  pub same-Record : (xs ys : List (RecordEntry ExprTree)) → AllZip SameEntry xs ys → SameTree (t.Record xs) (t.Record ys)
  same-Record xs ys each =
      plain_same _ _ _ _ (ap (meaning text) (sym (t.rolls-Record xs)) ∙ fold-roll-ExprTree Meaning (core_step text) (tree.Record xs))
      (ap (meaning part) (sym (t.rolls-Record ys)) ∙ fold-roll-ExprTree Meaning (core_step part) (tree.Record ys))
      (known.core-Record text xs ∙ ap core.Record (fields xs ys each) ∙ sym (known.core-Record part ys))

  accesses_same : (e f : Expr) (xs ys : List (Access (List ExprTree))) → e ≡ f → AllZip SameAccess xs ys
      → fold (accessed text) e (map (in_access (core_of text)) xs) ≡ fold (accessed part) f (map (in_access (core_of part)) ys)
  accesses_same e f [] [] same h = same
  accesses_same e f [] (y ∷ ys) same h = absurd h
  accesses_same e f (x ∷ xs) [] same h = absurd h
  accesses_same e f (access.Field a ∷ xs) (access.Field b ∷ ys) same h =
      accesses_same (core.Field e (name_of text a)) (core.Field f (name_of part b)) xs ys (λ i. core.Field (same i) (h.0 i)) h.1
  accesses_same e f (access.Method m ps ∷ xs) (access.Method n qs ∷ ys) same h =
      accesses_same (method_called (method_of (spelling_of text m)) e (map (core_of text) ps)) (method_called (method_of (spelling_of part n)) f (map (core_of part) qs)) xs ys
      (λ i. method_called (method_of (h.0.0.spelled i)) (same i) (cores ps qs h.0.1 i)) h.1
  accesses_same e f (access.Field a ∷ xs) (access.Method n qs ∷ ys) same h = absurd h.0
  accesses_same e f (access.Method m ps ∷ xs) (access.Field b ∷ ys) same h = absurd h.0

  pub same-Member : (a b : ExprTree) (xs ys : List (Access (List ExprTree))) → SameTree a b → AllZip SameAccess xs ys → SameTree (t.Member a xs) (t.Member b ys)
  same-Member a b xs ys h each =
      plain_same _ _ _ _ (ap (meaning text) (sym (t.rolls-Member a xs)) ∙ fold-roll-ExprTree Meaning (core_step text) (tree.Member a xs))
      (ap (meaning part) (sym (t.rolls-Member b ys)) ∙ fold-roll-ExprTree Meaning (core_step part) (tree.Member b ys))
      (known.core-Member text a xs ∙ accesses_same (core_of text a) (core_of part b) xs ys (ap (λ (m : Meaning). m.alone) h) each ∙ sym (known.core-Member part b ys))

  pub same-Not : (a b : ExprTree) → SameTree a b → SameTree (t.Not a) (t.Not b)
  same-Not a b h =
      ap (meaning text) (sym (t.rolls-Not a)) ∙ fold-roll-ExprTree Meaning (core_step text) (tree.Not a) ∙ ap (λ (m : Meaning). plain (core.Unary Not m.alone)) h
      ∙ sym (ap (meaning part) (sym (t.rolls-Not b)) ∙ fold-roll-ExprTree Meaning (core_step part) (tree.Not b))

  pub same-Minus : (a b : ExprTree) → SameTree a b → SameTree (t.Minus a) (t.Minus b)
  same-Minus a b h =
      ap (meaning text) (sym (t.rolls-Minus a)) ∙ fold-roll-ExprTree Meaning (core_step text) (tree.Minus a) ∙ ap (λ (m : Meaning). plain m.negated) h
      ∙ sym (ap (meaning part) (sym (t.rolls-Minus b)) ∙ fold-roll-ExprTree Meaning (core_step part) (tree.Minus b))

  pub same-Product : (a b : ExprTree) (xs ys : List ExprTree) → SameTree a b → AllZip SameTree xs ys → SameTree (t.Product a xs) (t.Product b ys)
  same-Product a b xs ys h each =
      plain_same _ _ _ _ (ap (meaning text) (sym (t.rolls-Product a xs)) ∙ fold-roll-ExprTree Meaning (core_step text) (tree.Product a xs))
      (ap (meaning part) (sym (t.rolls-Product b ys)) ∙ fold-roll-ExprTree Meaning (core_step part) (tree.Product b ys))
      (known.core-Product text a xs ∙ (λ i. fold (core.Binary Multiply) (h i).alone (cores xs ys each i)) ∙ sym (known.core-Product part b ys))

  terms : (xs ys : List (Term ExprTree)) → AllZip SameTerm xs ys → map (in_term (core_of text)) xs ≡ map (in_term (core_of part)) ys
  terms [] [] h = refl
  terms [] (y ∷ ys) h = absurd h
  terms (x ∷ xs) [] h = absurd h
  terms (x ∷ xs) (y ∷ ys) h = λ i. record { sign = h.0.0 i; operand = (h.0.1 i).alone } ∷ terms xs ys h.1 i

  pub same-Sum : (a b : ExprTree) (xs ys : List (Term ExprTree)) → SameTree a b → AllZip SameTerm xs ys → SameTree (t.Sum a xs) (t.Sum b ys)
  same-Sum a b xs ys h each =
      plain_same _ _ _ _ (ap (meaning text) (sym (t.rolls-Sum a xs)) ∙ fold-roll-ExprTree Meaning (core_step text) (tree.Sum a xs))
      (ap (meaning part) (sym (t.rolls-Sum b ys)) ∙ fold-roll-ExprTree Meaning (core_step part) (tree.Sum b ys))
      (known.core-Sum text a xs ∙ (λ i. fold added (h i).alone (terms xs ys each i)) ∙ sym (known.core-Sum part b ys))

  pub same-Compare : (a b x y : ExprTree) (o p : Comparison) → SameTree a b → o ≡ p → SameTree x y → SameTree (t.Compare a o x) (t.Compare b p y)
  same-Compare a b x y o p h e k =
      plain_same _ _ _ _ (ap (meaning text) (sym (t.rolls-Compare a o x)) ∙ fold-roll-ExprTree Meaning (core_step text) (tree.Compare a o x))
      (ap (meaning part) (sym (t.rolls-Compare b p y)) ∙ fold-roll-ExprTree Meaning (core_step part) (tree.Compare b p y))
      (known.core-Compare text a o x ∙ (λ i. compared (e i) (h i).alone (k i).alone) ∙ sym (known.core-Compare part b p y))

  pub same-Has : (a b : ExprTree) (m n : KeyTree) → SameTree a b → SameKey m n → SameTree (t.Has a m) (t.Has b n)
  same-Has a b m n h k =
      plain_same _ _ _ _ (ap (meaning text) (sym (t.rolls-Has a m)) ∙ fold-roll-ExprTree Meaning (core_step text) (tree.Has a m))
      (ap (meaning part) (sym (t.rolls-Has b n)) ∙ fold-roll-ExprTree Meaning (core_step part) (tree.Has b n))
      (known.core-Has text a m ∙ (λ i. core.Has (h i).alone (k i)) ∙ sym (known.core-Has part b n))

  pub same-Like : (a b : ExprTree) (m n : Token) → SameTree a b → Same text part m n → SameTree (t.Like a m) (t.Like b n)
  same-Like a b m n h k =
      plain_same _ _ _ _ (ap (meaning text) (sym (t.rolls-Like a m)) ∙ fold-roll-ExprTree Meaning (core_step text) (tree.Like a m))
      (ap (meaning part) (sym (t.rolls-Like b n)) ∙ fold-roll-ExprTree Meaning (core_step part) (tree.Like b n))
      (known.core-Like text a m ∙ (λ i. core.Unary (Like (pattern_of (k.spelled i))) (h i).alone) ∙ sym (known.core-Like part b n))

  pub same-Is : (a b : ExprTree) (p q : PathTree) → SameTree a b → SamePath p q → SameTree (t.Is a p) (t.Is b q)
  same-Is a b p q h k =
      plain_same _ _ _ _ (ap (meaning text) (sym (t.rolls-Is a p)) ∙ fold-roll-ExprTree Meaning (core_step text) (tree.Is a p))
      (ap (meaning part) (sym (t.rolls-Is b q)) ∙ fold-roll-ExprTree Meaning (core_step part) (tree.Is b q))
      (known.core-Is text a p ∙ (λ i. core.Unary (Is (k.0 i)) (h i).alone) ∙ sym (known.core-Is part b q))

  pub same-IsIn : (a b x y : ExprTree) (p q : PathTree) → SameTree a b → SamePath p q → SameTree x y → SameTree (t.IsIn a p x) (t.IsIn b q y)
  same-IsIn a b x y p q h k l =
      plain_same _ _ _ _ (ap (meaning text) (sym (t.rolls-IsIn a p x)) ∙ fold-roll-ExprTree Meaning (core_step text) (tree.IsIn a p x))
      (ap (meaning part) (sym (t.rolls-IsIn b q y)) ∙ fold-roll-ExprTree Meaning (core_step part) (tree.IsIn b q y))
      (known.core-IsIn text a p x ∙ (λ i. core.And (core.Unary (Is (k.0 i)) (h i).alone) (core.Binary In (h i).alone (l i).alone)) ∙ sym (known.core-IsIn part b q y))

  pub same-And : (a b : ExprTree) (xs ys : List ExprTree) → SameTree a b → AllZip SameTree xs ys → SameTree (t.And a xs) (t.And b ys)
  same-And a b xs ys h each =
      plain_same _ _ _ _ (ap (meaning text) (sym (t.rolls-And a xs)) ∙ fold-roll-ExprTree Meaning (core_step text) (tree.And a xs))
      (ap (meaning part) (sym (t.rolls-And b ys)) ∙ fold-roll-ExprTree Meaning (core_step part) (tree.And b ys))
      (known.core-And text a xs ∙ (λ i. fold core.And (h i).alone (cores xs ys each i)) ∙ sym (known.core-And part b ys))

  pub same-Or : (a b : ExprTree) (xs ys : List ExprTree) → SameTree a b → AllZip SameTree xs ys → SameTree (t.Or a xs) (t.Or b ys)
  same-Or a b xs ys h each =
      plain_same _ _ _ _ (ap (meaning text) (sym (t.rolls-Or a xs)) ∙ fold-roll-ExprTree Meaning (core_step text) (tree.Or a xs))
      (ap (meaning part) (sym (t.rolls-Or b ys)) ∙ fold-roll-ExprTree Meaning (core_step part) (tree.Or b ys))
      (known.core-Or text a xs ∙ (λ i. fold core.Or (h i).alone (cores xs ys each i)) ∙ sym (known.core-Or part b ys))

  pub same-If : (a b c x y z : ExprTree) → SameTree a x → SameTree b y → SameTree c z → SameTree (t.If a b c) (t.If x y z)
  same-If a b c x y z h k l =
      plain_same _ _ _ _ (ap (meaning text) (sym (t.rolls-If a b c)) ∙ fold-roll-ExprTree Meaning (core_step text) (tree.If a b c))
      (ap (meaning part) (sym (t.rolls-If x y z)) ∙ fold-roll-ExprTree Meaning (core_step part) (tree.If x y z))
      (known.core-If text a b c ∙ (λ i. core.If (h i).alone (k i).alone (l i).alone) ∙ sym (known.core-If part x y z))
