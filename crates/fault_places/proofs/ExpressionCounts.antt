-- An expression's tree counts the tokens that derive it: one rule a production.
use Rattle.std.proofs.Common.{◌≡◌, ℕ, zero, suc, ◌+◌, Bool, List, [], ◌∷◌, length, map, Option, Some, None, refl, sym, ap, ◌∙◌, arith}
use Rattle.grammar_syntax.specs.declared.token.TokenKind.{TokenKind}
use Rattle.grammar_syntax.specs.declared.token.TokenKind.TheVariants as k
use Rattle.grammar_syntax.specs.declared.token.Token.{Token}
use Rattle.grammar_syntax.specs.declared.tree.Access.{Access}
use Rattle.grammar_syntax.specs.declared.tree.Access.TheVariants as access
use Rattle.grammar_syntax.specs.declared.tree.ExprTree.{ExprTree}
use Rattle.grammar_syntax.specs.declared.tree.ExprTree.TheVariants as tree
use Rattle.grammar_syntax.specs.declared.tree.KeyTree.TheVariants.{Word, Quoted}
use Rattle.grammar_syntax.specs.Kinds.{only}
use Rattle.grammar_syntax.specs.Lang.{Lang}
use Rattle.grammar_syntax.specs.Lang as lang
use Rattle.grammar_syntax.specs.Grammar.{identifiers}
use Rattle.grammar_parsing.specs.Expressions as g
use Rattle.grammar_parsing.specs.Expressions.{boolean_of, variable_of, sign_of, comparison_of, patterns, joined}
use Rattle.grammar_parsing.specs.Expressions.{accessed, is_in, is_positive, expr}
use Rattle.fault_places.specs.TokenCounts.{path_count, uid_count, tree_count, access_tree_count, term_count, entry_count, each_count, total, lone_count, row_count}
use Rattle.fault_places.proofs.Counts.{count-Boolean, count-Number, count-Text, count-Variable, count-Uid, count-Call, count-Parentheses, count-Set, count-Record, count-Member, count-Not, count-Minus, count-Product, count-Sum, count-Compare, count-Has, count-Like, count-Is, count-IsIn, count-And, count-Or, count-If}
use Rattle.fault_places.proofs.Dropping.{length-mapped}
use Rattle.fault_places.proofs.LanguageCounts.{Fits, Single, By, token_fits, nothing_fits, both_fits, past_fits, giving_fits, or_fits, gate_fits, optional_fits, many_fits, total_more, path_fits, uid_fits}

symbol_fits : {A : Type 0} (meaning : TokenKind → Option A) → Fits (g.symbol meaning) Single
symbol_fits meaning ts a d = ap length d.1

abbrev pub Tree : ExprTree → ℕ → Type 0
Tree = By tree_count

joined_fits : {A : Type 0} (make : ExprTree → List A → ExprTree) (count : A → ℕ)
    → ((x : ExprTree) (more : List A) → tree_count (make x more) ≡ tree_count x + total (map count more))
    → (x : ExprTree) (more : List A) (n m : ℕ) → n ≡ tree_count x → m ≡ total (map count more) → n + (m + 0) ≡ tree_count (joined make x more)
joined_fits make count each x [] n m first all = omega arith
joined_fits make count each x (next ∷ more) n m first all = let e = each x (next ∷ more) in omega arith

chain_fits : {A : Type 0} (first : Lang ExprTree) (piece : Lang A) (make : ExprTree → List A → ExprTree) (count : A → ℕ) → Fits first Tree → Fits piece (By count)
    → ((x : ExprTree) (more : List A) → tree_count (make x more) ≡ tree_count x + total (map count more)) → Fits (g.chain first piece make) Tree
chain_fits first piece make count f p each =
    both_fits Tree Tree f
    (λ x n h. both_fits (By (λ xs. total (map count xs))) (λ y m. n + m ≡ tree_count y) (many_fits piece count p)
    (λ more m all. nothing_fits (λ y i. n + (m + i) ≡ tree_count y) (joined make x more) (joined_fits make count each x more n m h all)))

literal_fits : Fits g.literal Tree
literal_fits =
    or_fits Tree (giving_fits Single Tree tree.Boolean (symbol_fits boolean_of) (λ value n one. let e = count-Boolean value in omega arith))
    (or_fits Tree (giving_fits Single Tree tree.Number (token_fits (only k.Number)) (λ t n one. let e = count-Number t in omega arith))
    (giving_fits Single Tree tree.Text (token_fits (only k.Text)) (λ t n one. let e = count-Text t in omega arith)))

key_fits : Fits g.key Single
key_fits =
    or_fits Single (giving_fits Single Single Word (token_fits identifiers) (λ t n one. omega arith)) (giving_fits Single Single Quoted (token_fits (only k.Text)) (λ t n one. omega arith))

abbrev pub Access' : Access (List ExprTree) → ℕ → Type 0
Access' = By access_tree_count

pub indexed_fits : Fits g.indexed Access'
indexed_fits =
    past_fits (only k.LBracket) Access'
    (both_fits Single (λ x m. 1 + m ≡ access_tree_count x) (token_fits (only k.Text))
    (λ name n one. past_fits (only k.RBracket) (λ x m. 1 + (n + m) ≡ access_tree_count x)
    (nothing_fits (λ x m. 1 + (n + (1 + m)) ≡ access_tree_count x) (access.Field (Quoted name)) (omega arith))))

-- a list's tokens with the closing bracket behind them
abbrev pub Row : {A : Type 0} → (A → ℕ) → List A → ℕ → Type 0
Row count xs n = n + 1 ≡ lone_count (length xs) + each_count (map count xs)

row_of : {A : Type 0} (count : A → ℕ) (first : A) (more : List A) (n m : ℕ) → n ≡ count first → m ≡ total (map (λ x. 1 + count x) more) → Row count (first ∷ more) (n + (m + 0))
row_of count first more n m f all = let e = total_more count more in omega arith

-- a list in commas
pub list_fits : {A : Type 0} (item : Lang A) (count : A → ℕ) → Fits item (By count)
    → Fits (lang.◌or◌ (lang.◌>>=◌ item (λ first. lang.◌>>=◌ (lang.many (lang.◌>>◌ (lang.one k.Comma) item)) (λ more. lang.empty (first ∷ more)))) (lang.empty [])) (Row count)
list_fits item count each =
    or_fits (Row count)
    (both_fits (By count) (Row count) each
    (λ first n f. both_fits (By (λ xs. total (map (λ x. 1 + count x) xs))) (λ xs m. Row count xs (n + m))
    (many_fits (lang.◌>>◌ (lang.one k.Comma) item) (λ x. 1 + count x) (past_fits (only k.Comma) (By (λ x. 1 + count x)) (λ ts x d. ap (λ m. 1 + m) (each ts x d))))
    (λ more m all. nothing_fits (λ xs i. Row count xs (n + (m + i))) (first ∷ more) (row_of count first more n m f all))))
    (nothing_fits (Row count) [] (omega arith))

-- arguments in parentheses, or none for a field
abbrev MaybeRow : Option (List ExprTree) → ℕ → Type 0
MaybeRow None n = n ≡ 0
MaybeRow (Some xs) n = n ≡ 1 + row_count (map tree_count xs)

accessed_fits : (name : Token) (found : Option (List ExprTree)) (n m : ℕ) → n ≡ 1 → MaybeRow found m → 1 + (n + (m + 0)) ≡ access_tree_count (accessed name found)
accessed_fits name None n m one none = omega arith
accessed_fits name (Some xs) n m one some = omega arith

-- over the expressions of one level less
module _ (may : Bool) (inner : Lang ExprTree) (each : Fits inner Tree) where
  arguments_fits : Fits (g.arguments may inner) (Row tree_count)
  arguments_fits = list_fits inner tree_count each

  called_fits : Fits (g.called may inner) (λ xs n. n ≡ 1 + row_count (map tree_count xs))
  called_fits =
      past_fits (only k.LParen) (λ xs n. n ≡ 1 + row_count (map tree_count xs))
      (both_fits (Row tree_count) (λ xs m. 1 + m ≡ 1 + row_count (map tree_count xs)) arguments_fits
      (λ found n row. past_fits (only k.RParen) (λ xs m. 1 + (n + m) ≡ 1 + row_count (map tree_count xs))
      (nothing_fits (λ xs m. 1 + (n + (1 + m)) ≡ 1 + row_count (map tree_count xs)) found
      (let e = ap lone_count (length-mapped tree_count found) in omega arith))))

  call_fits : Fits (g.call may inner) Tree
  call_fits =
      both_fits (By path_count) Tree path_fits
      (λ name n p. both_fits (λ xs n. n ≡ 1 + row_count (map tree_count xs)) (λ x m. n + m ≡ tree_count x) called_fits
      (λ found m row. nothing_fits (λ x i. n + (m + i) ≡ tree_count x) (tree.Call name found) (let e = count-Call name found in omega arith)))

  named_fits : Fits (g.named may inner) Tree
  named_fits =
      or_fits Tree (giving_fits Single Tree tree.Variable (symbol_fits variable_of) (λ variable n one. let e = count-Variable variable in omega arith))
      (or_fits Tree (giving_fits (By uid_count) Tree tree.Uid uid_fits (λ u n h. let e = count-Uid u in omega arith)) (gate_fits Tree may (g.call may inner) call_fits))

  parenthesized_fits : Fits (g.parenthesized may inner) Tree
  parenthesized_fits =
      past_fits (only k.LParen) Tree
      (both_fits Tree (λ x m. 1 + m ≡ tree_count x) each
      (λ x n h. past_fits (only k.RParen) (λ y m. 1 + (n + m) ≡ tree_count y)
      (nothing_fits (λ y m. 1 + (n + (1 + m)) ≡ tree_count y) (tree.Parentheses x) (let e = count-Parentheses x in omega arith))))

  set_fits : Fits (g.set may inner) Tree
  set_fits =
      past_fits (only k.LBracket) Tree
      (both_fits (Row tree_count) (λ x m. 1 + m ≡ tree_count x) arguments_fits
      (λ found n row. past_fits (only k.RBracket) (λ y m. 1 + (n + m) ≡ tree_count y)
      (nothing_fits (λ y m. 1 + (n + (1 + m)) ≡ tree_count y) (tree.Set found)
      (let e = count-Set found in let l = ap lone_count (length-mapped tree_count found) in omega arith))))

  entry_fits : Fits (g.entry may inner) (By entry_count)
  entry_fits =
      both_fits Single (By entry_count) key_fits
      (λ key n one. past_fits (only k.Colon) (λ x m. n + m ≡ entry_count x)
      (both_fits Tree (λ x m. n + (1 + m) ≡ entry_count x) each
      (λ x m h. nothing_fits (λ y i. n + (1 + (m + i)) ≡ entry_count y) (record { key = key; value = x }) (omega arith))))

  entries_fits : Fits (g.entries may inner) (Row entry_count)
  entries_fits = list_fits (g.entry may inner) entry_count entry_fits

  braced_fits : Fits (g.braced may inner) Tree
  braced_fits =
      past_fits (only k.LBrace) Tree
      (both_fits (Row entry_count) (λ x m. 1 + m ≡ tree_count x) entries_fits
      (λ found n row. past_fits (only k.RBrace) (λ y m. 1 + (n + m) ≡ tree_count y)
      (nothing_fits (λ y m. 1 + (n + (1 + m)) ≡ tree_count y) (tree.Record found)
      (let e = count-Record found in let l = ap lone_count (length-mapped entry_count found) in omega arith))))

  nested_fits : Fits (g.nested may inner) Tree
  nested_fits = or_fits Tree parenthesized_fits (or_fits Tree set_fits braced_fits)

  primary_fits : Fits (g.primary may inner) Tree
  primary_fits = or_fits Tree named_fits (or_fits Tree (gate_fits Tree may (g.nested may inner) nested_fits) literal_fits)

  maybe_called_fits : Fits (g.maybe_called may inner) MaybeRow
  maybe_called_fits =
      or_fits MaybeRow
      (gate_fits MaybeRow may (lang.◌giving◌ (g.called may inner) Some) (giving_fits (λ xs n. n ≡ 1 + row_count (map tree_count xs)) MaybeRow Some called_fits (λ xs n row. let e : n + 0 ≡ n = omega arith in e ∙ row)))
      (nothing_fits MaybeRow None refl)

  pub dotted_fits : Fits (g.dotted may inner) Access'
  dotted_fits =
      past_fits (only k.Dot) Access'
      (both_fits Single (λ x m. 1 + m ≡ access_tree_count x) (token_fits identifiers)
      (λ name n one. both_fits MaybeRow (λ x m. 1 + (n + m) ≡ access_tree_count x) maybe_called_fits
      (λ found m row. nothing_fits (λ x i. 1 + (n + (m + i)) ≡ access_tree_count x) (accessed name found) (accessed_fits name found n m one row))))

  member_fits : Fits (g.member may inner) Tree
  member_fits =
      chain_fits (g.primary may inner) (lang.◌or◌ (g.dotted may inner) g.indexed) tree.Member access_tree_count primary_fits (or_fits Access' dotted_fits indexed_fits) count-Member

  signed_fits : (sign : TokenKind) (make : ExprTree → ExprTree) (n : ℕ) → ((x : ExprTree) → tree_count (make x) ≡ 1 + tree_count x) → Fits (g.signed may inner sign make n) Tree
  signed_fits sign make zero h ts x d = member_fits ts x d
  signed_fits sign make (suc n) h ts x d =
      or_fits Tree
      (past_fits (only sign) Tree
      (both_fits Tree (λ y m. 1 + m ≡ tree_count y) (signed_fits sign make n h)
      (λ y m s. nothing_fits (λ z i. 1 + (m + i) ≡ tree_count z) (make y) (let e = h y in omega arith))))
      member_fits ts x d

  unary_fits : Fits (g.unary may inner) Tree
  unary_fits = or_fits Tree (signed_fits k.Not tree.Not 4 count-Not) (signed_fits k.Minus tree.Minus 4 count-Minus)

  -- further operands, each behind its operator
  operand_fits : (kind : TokenKind) (L : Lang ExprTree) → Fits L Tree → Fits (lang.◌>>◌ (lang.one kind) L) (By (λ x. 1 + tree_count x))
  operand_fits kind L l = past_fits (only kind) (By (λ x. 1 + tree_count x)) (λ ts x d. ap (λ m. 1 + m) (l ts x d))

  several : (make : ExprTree → List ExprTree → ExprTree) → ((x : ExprTree) (more : List ExprTree) → tree_count (make x more) ≡ tree_count x + each_count (map tree_count more))
      → (x : ExprTree) (more : List ExprTree) → tree_count (make x more) ≡ tree_count x + total (map (λ y. 1 + tree_count y) more)
  several make h x more = h x more ∙ ap (λ n. tree_count x + n) (sym (total_more tree_count more))

  product_fits : Fits (g.product may inner) Tree
  product_fits =
      chain_fits (g.unary may inner) (lang.◌>>◌ (lang.one k.Star) (g.unary may inner)) tree.Product (λ x. 1 + tree_count x) unary_fits (operand_fits k.Star (g.unary may inner) unary_fits)
      (several tree.Product count-Product)

  term_fits : Fits (g.term may inner) (By (λ term. 1 + term_count term))
  term_fits =
      both_fits Single (By (λ term. 1 + term_count term)) (symbol_fits sign_of)
      (λ sign n one. both_fits Tree (λ term m. n + m ≡ 1 + term_count term) product_fits
      (λ x m h. nothing_fits (λ term i. n + (m + i) ≡ 1 + term_count term) (record { sign = sign; operand = x }) (omega arith)))

  sum_fits : Fits (g.sum may inner) Tree
  sum_fits =
      chain_fits (g.product may inner) (g.term may inner) tree.Sum (λ term. 1 + term_count term) product_fits term_fits
      (λ x terms. count-Sum x terms ∙ ap (λ n. tree_count x + n) (sym (total_more term_count terms)))

  -- what stands behind a sum of n tokens
  abbrev Behind : ℕ → ExprTree → ℕ → Type 0
  Behind n y m = n + m ≡ tree_count y

  compared_fits : (x : ExprTree) (n : ℕ) → n ≡ tree_count x → Fits (g.compared may inner x) (Behind n)
  compared_fits x n h =
      both_fits Single (Behind n) (symbol_fits comparison_of)
      (λ operator i one. both_fits Tree (λ y m. n + (i + m) ≡ tree_count y) sum_fits
      (λ y j s. nothing_fits (λ z m. n + (i + (j + m)) ≡ tree_count z) (tree.Compare x operator y) (let e = count-Compare x operator y in omega arith)))

  has_fits : (x : ExprTree) (n : ℕ) → n ≡ tree_count x → Fits (g.has may inner x) (Behind n)
  has_fits x n h =
      past_fits (only k.Has) (Behind n)
      (both_fits Single (λ y m. n + (1 + m) ≡ tree_count y) key_fits
      (λ name i one. nothing_fits (λ z m. n + (1 + (i + m)) ≡ tree_count z) (tree.Has x name) (let e = count-Has x name in omega arith)))

  like_fits : (x : ExprTree) (n : ℕ) → n ≡ tree_count x → Fits (g.like may inner x) (Behind n)
  like_fits x n h =
      past_fits (only k.Like) (Behind n)
      (both_fits Single (λ y m. n + (1 + m) ≡ tree_count y) (token_fits patterns)
      (λ text i one. nothing_fits (λ z m. n + (1 + (i + m)) ≡ tree_count z) (tree.Like x text) (let e = count-Like x text in omega arith)))

  typed_fits : (x : ExprTree) (n : ℕ) → n ≡ tree_count x → Fits (g.type_test may inner x) (Behind n)
  typed_fits x n h =
      past_fits (only k.Is) (Behind n)
      (both_fits (By path_count) (λ y m. n + (1 + m) ≡ tree_count y) path_fits
      (λ path i p. both_fits (λ o m. n + (1 + (i + m)) ≡ tree_count (is_in x path o)) (λ y m. n + (1 + (i + m)) ≡ tree_count y)
      (optional_fits (g.inside may inner) (λ o m. n + (1 + (i + m)) ≡ tree_count (is_in x path o))
      (let e = count-Is x path in omega arith)
      (past_fits (only k.In) (λ y m. n + (1 + (i + m)) ≡ tree_count (tree.IsIn x path y))
      (λ ts y d. let s = sum_fits ts y d in let e = count-IsIn x path y in omega arith)))
      (λ o j s. nothing_fits (λ z m. n + (1 + (i + (j + m))) ≡ tree_count z) (is_in x path o) (let e : j + 0 ≡ j = omega arith in ap (λ q. n + (1 + (i + q))) e ∙ s))))

  relation_fits : Fits (g.relation may inner) Tree
  relation_fits =
      both_fits Tree Tree sum_fits
      (λ x n h. or_fits (Behind n) (compared_fits x n h)
      (or_fits (Behind n) (has_fits x n h)
      (or_fits (Behind n) (like_fits x n h)
      (or_fits (Behind n) (typed_fits x n h)
      (nothing_fits (Behind n) x (omega arith))))))

  conjunction_fits : Fits (g.conjunction may inner) Tree
  conjunction_fits =
      chain_fits (g.relation may inner) (lang.◌>>◌ (lang.one k.And) (g.relation may inner)) tree.And (λ x. 1 + tree_count x) relation_fits (operand_fits k.And (g.relation may inner) relation_fits)
      (several tree.And count-And)

  disjunction_fits : Fits (g.disjunction may inner) Tree
  disjunction_fits =
      chain_fits (g.conjunction may inner) (lang.◌>>◌ (lang.one k.Or) (g.conjunction may inner)) tree.Or (λ x. 1 + tree_count x) conjunction_fits (operand_fits k.Or (g.conjunction may inner) conjunction_fits)
      (several tree.Or count-Or)

  next_fits : (kind : TokenKind) → Fits (lang.◌>>◌ (lang.one kind) inner) (By (λ x. 1 + tree_count x))
  next_fits kind = operand_fits kind inner each

  conditional_fits : Fits (g.conditional may inner) Tree
  conditional_fits =
      past_fits (only k.If) Tree
      (both_fits Tree (λ y m. 1 + m ≡ tree_count y) each
      (λ test i a. both_fits (By (λ x. 1 + tree_count x)) (λ y m. 1 + (i + m) ≡ tree_count y) (next_fits k.Then)
      (λ consequent j b. both_fits (By (λ x. 1 + tree_count x)) (λ y m. 1 + (i + (j + m)) ≡ tree_count y) (next_fits k.Else)
      (λ alternative l c. nothing_fits (λ y m. 1 + (i + (j + (l + m))) ≡ tree_count y) (tree.If test consequent alternative)
      (let e = count-If test consequent alternative in omega arith)))))

  level_fits : Fits (g.level may inner) Tree
  level_fits = or_fits Tree (gate_fits Tree may (g.conditional may inner) conditional_fits) disjunction_fits

pub expr_fits : (levels : ℕ) → Fits (expr levels) (By tree_count)
unfolding expr
expr_fits zero ts x d = absurd d
expr_fits (suc levels) ts x d = level_fits (is_positive levels) (expr levels) (expr_fits levels) ts x d
