-- Literals, keys, lists, primaries and what is asked of them derive something, and what each begins with.
use Rattle.std.proofs.Common.{◌≡◌, ◌⊎◌, inl, inr, Bool, true, false, List, [], ◌∷◌, Option, Some, None, refl}
use Rattle.grammar_syntax.specs.declared.token.Token.{Token}
use Rattle.grammar_syntax.specs.declared.token.TokenKind.{TokenKind}
use Rattle.grammar_syntax.specs.declared.token.TokenKind.TheVariants as k
use Rattle.grammar_syntax.specs.declared.name_trees.PathTree.{PathTree}
use Rattle.grammar_syntax.specs.declared.tree.Access.{Access}
use Rattle.grammar_syntax.specs.declared.tree.RecordEntry.{RecordEntry}
use Rattle.grammar_syntax.specs.declared.tree.KeyTree.{KeyTree}
use Rattle.grammar_syntax.specs.declared.tree.KeyTree.TheVariants.{Word, Quoted}
use Rattle.grammar_syntax.specs.declared.tree.Sign.{Sign}
use Rattle.grammar_syntax.specs.declared.tree.Term.{Term}
use Rattle.grammar_syntax.specs.declared.tree.ExprTree.{ExprTree}
use Rattle.grammar_syntax.specs.declared.tree.ExprTree.TheVariants as tree
use Rattle.grammar_syntax.specs.Kinds.{Kinds, only, same_kind}
use Rattle.grammar_syntax.specs.Lang.{Lang}
use Rattle.grammar_syntax.specs.Lang as lang
use Rattle.grammar_syntax.specs.Grammar.{identifiers, path, uid}
use Rattle.grammar_parsing.specs.Expressions as g
use Rattle.grammar_parsing.specs.Expressions.{known, boolean_of, variable_of, booleans, keys, joined, accessed}
use Rattle.grammar_parsing.specs.inner.Reading.{openers, access_firsts}
use Rattle.grammar_syntax.specs.ParseResults.{Begins}
use Rattle.grammar_syntax.proofs.Forms.{Starts, starts_of, starts_both, starts_or, alive_empty}
use Rattle.grammar_syntax.proofs.Forms.{alive_left, alive_right, begin_of}
use Rattle.grammar_syntax.proofs.Many.{alive_many}
use Rattle.grammar_syntax.proofs.Steps.{go, go_one, starts_one, wide_starts}
use Rattle.grammar_syntax.proofs.NameRules.{starts_path, starts_uid}
use Rattle.grammar_syntax.proofs.Openings.{Opening, opening_one, opening_then, starts_gate}
use Rattle.grammar_parsing.proofs.SymbolRules.{starts_symbol, begin_symbol}
use Rattle.grammar_parsing.proofs.NamedRules.{rest_of_call}

-- ---- first tokens

abbrev pub literal_firsts : Kinds
literal_firsts k.True = true
literal_firsts k.False = true
literal_firsts k.Number = true
literal_firsts k.Text = true
literal_firsts _ = false

abbrev pub other_firsts : Kinds
other_firsts k.LParen = true
other_firsts k.LBracket = true
other_firsts k.LBrace = true
other_firsts kind = literal_firsts kind

abbrev pub primary_firsts : Kinds
primary_firsts k.LParen = true
primary_firsts k.LBracket = true
primary_firsts k.LBrace = true
primary_firsts k.True = true
primary_firsts k.False = true
primary_firsts k.Number = true
primary_firsts k.Text = true
primary_firsts kind = identifiers kind

abbrev pub minus_firsts : Kinds
minus_firsts k.Minus = true
minus_firsts kind = primary_firsts kind

abbrev pub unary_firsts : Kinds
unary_firsts k.Not = true
unary_firsts kind = minus_firsts kind

abbrev pub chain_tail : {A : Type 0} → Lang A → (ExprTree → List A → ExprTree) → ExprTree → Lang ExprTree
chain_tail piece make x = lang.◌>>=◌ (lang.many piece) (λ more. lang.empty (joined make x more))

pub alive_tail : {A : Type 0} (piece : Lang A) (make : ExprTree → List A → ExprTree) (x : ExprTree) → Begins (chain_tail piece make x) []
alive_tail piece make x = go (alive_many piece) (λ more. alive_empty (joined make x more))

pub alive_chain : {A : Type 0} (L : Lang ExprTree) (piece : Lang A) (make : ExprTree → List A → ExprTree) → Begins L [] → Begins (g.chain L piece make) []
alive_chain L piece make b = go b (alive_tail piece make)

pub starts_chain : {A : Type 0} (L : Lang ExprTree) (piece : Lang A) (make : ExprTree → List A → ExprTree) (ks : Kinds) → Starts L ks → Starts (g.chain L piece make) ks
starts_chain L piece make ks s = starts_both L (chain_tail piece make) ks s

-- ---- literals

abbrev pub boolean : Lang ExprTree
boolean = lang.◌giving◌ (g.symbol boolean_of) tree.Boolean

abbrev pub number : Lang ExprTree
number = lang.◌giving◌ (lang.one k.Number) tree.Number

abbrev pub text : Lang ExprTree
text = lang.◌giving◌ (lang.one k.Text) tree.Text

abbrev pub number_or_text : Lang ExprTree
number_or_text = lang.◌or◌ number text

pub alive_literal : Begins g.literal []
alive_literal = alive_left boolean number_or_text [] (go (begin_symbol boolean_of k.True true refl) (λ value. alive_empty (tree.Boolean value)))

starts_giving : {A B : Type 0} (L : Lang A) (f : A → B) (ks : Kinds) → Starts L ks → Starts (lang.◌giving◌ L f) ks
starts_giving L f ks s = starts_both L (λ x. lang.empty (f x)) ks s

pub starts_boolean : Starts boolean booleans
starts_boolean = starts_giving (g.symbol boolean_of) tree.Boolean booleans (starts_symbol boolean_of)

pub starts_number : Starts number (only k.Number)
starts_number = starts_giving (lang.one k.Number) tree.Number (only k.Number) (starts_of (only k.Number))

pub starts_text : Starts text (only k.Text)
starts_text = starts_giving (lang.one k.Text) tree.Text (only k.Text) (starts_of (only k.Text))

pub starts_literal : Starts g.literal literal_firsts
unfolding same_kind
starts_literal =
    starts_or boolean number_or_text literal_firsts (wide_starts boolean booleans literal_firsts refl starts_boolean)
    (starts_or number text literal_firsts (wide_starts number (only k.Number) literal_firsts refl starts_number) (wide_starts text (only k.Text) literal_firsts refl starts_text))

-- ---- keys

abbrev pub word_key : Lang KeyTree
word_key = lang.◌giving◌ (lang.of identifiers) Word

abbrev pub quoted_key : Lang KeyTree
quoted_key = lang.◌giving◌ (lang.one k.Text) Quoted

pub starts_word_key : Starts word_key identifiers
starts_word_key = starts_giving (lang.of identifiers) Word identifiers (starts_of identifiers)

pub starts_quoted_key : Starts quoted_key (only k.Text)
starts_quoted_key = starts_giving (lang.one k.Text) Quoted (only k.Text) (starts_of (only k.Text))

pub starts_key : Starts g.key keys
unfolding same_kind
starts_key =
    starts_or word_key quoted_key keys (wide_starts word_key identifiers keys refl starts_word_key)
    (wide_starts quoted_key (only k.Text) keys refl starts_quoted_key)

pub alive_key : Begins g.key []
alive_key = alive_left word_key quoted_key [] (go (begin_of identifiers k.Ident refl) (λ t. alive_empty (Word t)))

-- ---- what nests

abbrev pub entry_of : KeyTree → ExprTree → RecordEntry ExprTree
entry_of key x = record { key = key; value = x }

abbrev pub term_of : Sign → ExprTree → Term ExprTree
term_of sign x = record { sign = sign; operand = x }

module _ (o : Bool) (E : Lang ExprTree) where
  abbrev pub next_argument : Lang ExprTree
  next_argument = lang.◌>>◌ (lang.one k.Comma) E

  abbrev pub listed : ExprTree → Lang (List ExprTree)
  listed first = lang.◌>>=◌ (lang.many next_argument) (λ more. lang.empty (first ∷ more))

  pub alive_listed : (first : ExprTree) → Begins (listed first) []
  alive_listed first = go (alive_many next_argument) (λ more. alive_empty (first ∷ more))

  pub alive_arguments : Begins (g.arguments o E) []
  alive_arguments = alive_right (lang.◌>>=◌ E listed) (lang.empty []) [] (alive_empty [])

  abbrev pub in_call : Lang (List ExprTree)
  in_call = lang.◌>>=◌ (g.arguments o E) (λ found. lang.◌>>◌ (lang.one k.RParen) (lang.empty found))

  pub alive_in_call : Begins in_call []
  alive_in_call = go alive_arguments (λ found. go_one k.RParen (λ _. alive_empty found))

  pub opening_called : Opening (g.called o E) (only k.LParen)
  opening_called = opening_one k.LParen (λ _. in_call) (λ _. alive_in_call)

  pub starts_called : Starts (g.called o E) (only k.LParen)
  starts_called = starts_one k.LParen (λ _. in_call)

  pub opening_call : (name : PathTree) → Opening (rest_of_call o E name) (only k.LParen)
  opening_call name = opening_then (g.called o E) (λ found. lang.empty (tree.Call name found)) (only k.LParen) opening_called (λ found. alive_empty (tree.Call name found))

  pub starts_call : (name : PathTree) → Starts (rest_of_call o E name) (only k.LParen)
  starts_call name = starts_both (g.called o E) (λ found. lang.empty (tree.Call name found)) (only k.LParen) starts_called

  abbrev pub call_arguments : Lang (Option (List ExprTree))
  call_arguments = lang.◌giving◌ (g.called o E) Some

  pub opening_some : Opening call_arguments (only k.LParen)
  opening_some = opening_then (g.called o E) (λ found. lang.empty (Some found)) (only k.LParen) opening_called (λ found. alive_empty (Some found))

  pub starts_some : Starts call_arguments (only k.LParen)
  starts_some = starts_both (g.called o E) (λ found. lang.empty (Some found)) (only k.LParen) starts_called

  -- ---- entries

  abbrev pub entry_end : KeyTree → Lang (RecordEntry ExprTree)
  entry_end key = lang.◌>>◌ (lang.one k.Colon) (lang.◌>>=◌ E (λ x. lang.empty (entry_of key x)))

  pub starts_entry : Starts (g.entry o E) keys
  starts_entry = starts_both g.key entry_end keys starts_key

  abbrev pub next_entry : Lang (RecordEntry ExprTree)
  next_entry = lang.◌>>◌ (lang.one k.Comma) (g.entry o E)

  abbrev pub entered : RecordEntry ExprTree → Lang (List (RecordEntry ExprTree))
  entered first = lang.◌>>=◌ (lang.many next_entry) (λ more. lang.empty (first ∷ more))

  pub alive_entered : (first : RecordEntry ExprTree) → Begins (entered first) []
  alive_entered first = go (alive_many next_entry) (λ more. alive_empty (first ∷ more))

  pub alive_entries : Begins (g.entries o E) []
  alive_entries = alive_right (lang.◌>>=◌ (g.entry o E) entered) (lang.empty []) [] (alive_empty [])

  -- ---- brackets

  abbrev pub in_parens : Lang ExprTree
  in_parens = lang.◌>>=◌ E (λ x. lang.◌>>◌ (lang.one k.RParen) (lang.empty (tree.Parentheses x)))

  abbrev pub in_brackets : Lang ExprTree
  in_brackets = lang.◌>>=◌ (g.arguments o E) (λ found. lang.◌>>◌ (lang.one k.RBracket) (lang.empty (tree.Set found)))

  abbrev pub in_braces : Lang ExprTree
  in_braces = lang.◌>>=◌ (g.entries o E) (λ found. lang.◌>>◌ (lang.one k.RBrace) (lang.empty (tree.Record found)))

  pub alive_in_brackets : Begins in_brackets []
  alive_in_brackets = go alive_arguments (λ found. go_one k.RBracket (λ _. alive_empty (tree.Set found)))

  pub alive_in_braces : Begins in_braces []
  alive_in_braces = go alive_entries (λ found. go_one k.RBrace (λ _. alive_empty (tree.Record found)))

  abbrev pub set_or_record : Lang ExprTree
  set_or_record = lang.◌or◌ (g.set o E) (g.braced o E)

  pub starts_set : Starts (g.set o E) (only k.LBracket)
  starts_set = starts_one k.LBracket (λ _. in_brackets)

  pub starts_braced : Starts (g.braced o E) (only k.LBrace)
  starts_braced = starts_one k.LBrace (λ _. in_braces)

  pub starts_parens : Starts (g.parenthesized o E) (only k.LParen)
  starts_parens = starts_one k.LParen (λ _. in_parens)

  pub starts_nested : Starts (g.nested o E) openers
  unfolding same_kind
  starts_nested =
      starts_or (g.parenthesized o E) set_or_record openers (wide_starts (g.parenthesized o E) (only k.LParen) openers refl starts_parens)
      (starts_or (g.set o E) (g.braced o E) openers (wide_starts (g.set o E) (only k.LBracket) openers refl starts_set) (wide_starts (g.braced o E) (only k.LBrace) openers refl starts_braced))

  -- ---- names, Primary and Member

  pub starts_named : Starts (g.named o E) identifiers
  starts_named =
      starts_or (lang.◌giving◌ (g.symbol variable_of) tree.Variable) (lang.◌or◌ (lang.◌giving◌ uid tree.Uid) (lang.gate o (g.call o E))) identifiers
      (wide_starts (lang.◌giving◌ (g.symbol variable_of) tree.Variable) (known variable_of) identifiers refl (starts_giving (g.symbol variable_of) tree.Variable (known variable_of) (starts_symbol variable_of)))
      (starts_or (lang.◌giving◌ uid tree.Uid) (lang.gate o (g.call o E)) identifiers (starts_giving uid tree.Uid identifiers starts_uid)
      (starts_gate o (g.call o E) identifiers (starts_both path (rest_of_call o E) identifiers starts_path)))

  abbrev pub other : Lang ExprTree
  other = lang.◌or◌ (lang.gate o (g.nested o E)) g.literal

  pub alive_primary : Begins (g.primary o E) []
  alive_primary = alive_right (g.named o E) other [] (alive_right (lang.gate o (g.nested o E)) g.literal [] alive_literal)

  pub starts_other : Starts other other_firsts
  starts_other =
      starts_or (lang.gate o (g.nested o E)) g.literal other_firsts
      (starts_gate o (g.nested o E) other_firsts (wide_starts (g.nested o E) openers other_firsts refl starts_nested))
      (wide_starts g.literal literal_firsts other_firsts refl starts_literal)

  starts_primary : Starts (g.primary o E) primary_firsts
  starts_primary =
      starts_or (g.named o E) other primary_firsts (wide_starts (g.named o E) identifiers primary_firsts refl starts_named)
      (wide_starts other other_firsts primary_firsts refl starts_other)

  abbrev pub accessing : Lang (Access (List ExprTree))
  accessing = lang.◌or◌ (g.dotted o E) g.indexed

  pub alive_maybe_called : Begins (g.maybe_called o E) []
  alive_maybe_called = alive_right (lang.gate o call_arguments) (lang.empty None) [] (alive_empty None)

  abbrev pub behind_dot : Lang (Access (List ExprTree))
  behind_dot = lang.◌>>=◌ (lang.of identifiers) (λ name. lang.◌>>=◌ (g.maybe_called o E) (λ found. lang.empty (accessed name found)))

  pub alive_behind_name : (name : Token) → Begins (lang.◌>>=◌ (g.maybe_called o E) (λ found. lang.empty (accessed name found))) []
  alive_behind_name name = go alive_maybe_called (λ found. alive_empty (accessed name found))

  pub alive_behind_dot : Begins behind_dot []
  alive_behind_dot = go (begin_of identifiers k.Ident refl) alive_behind_name

  pub starts_dotted : Starts (g.dotted o E) (only k.Dot)
  starts_dotted = starts_one k.Dot (λ _. behind_dot)

  pub starts_indexed : Starts g.indexed (only k.LBracket)
  starts_indexed = starts_one k.LBracket _

  pub starts_accessing : Starts accessing access_firsts
  unfolding same_kind
  starts_accessing =
      starts_or (g.dotted o E) g.indexed access_firsts (wide_starts (g.dotted o E) (only k.Dot) access_firsts refl starts_dotted)
      (wide_starts g.indexed (only k.LBracket) access_firsts refl starts_indexed)

  pub alive_member : Begins (g.member o E) []
  alive_member = alive_chain (g.primary o E) accessing tree.Member alive_primary

  pub starts_member : Starts (g.member o E) primary_firsts
  starts_member = starts_chain (g.primary o E) accessing tree.Member primary_firsts starts_primary

  -- ---- where the inner language derives something

  module _ (alive : Begins E []) where
    pub alive_behind_key : (key : KeyTree) → Begins (lang.◌>>=◌ E (λ x. lang.empty (entry_of key x))) []
    alive_behind_key key = go alive (λ x. alive_empty (entry_of key x))

    pub alive_entry_end : (key : KeyTree) → Begins (entry_end key) []
    alive_entry_end key = go_one k.Colon (λ _. alive_behind_key key)

    pub alive_entry : Begins (g.entry o E) []
    alive_entry = go alive_key alive_entry_end

    pub alive_in_parens : Begins in_parens []
    alive_in_parens = go alive (λ x. go_one k.RParen (λ _. alive_empty (tree.Parentheses x)))

    opener_is : (kind : TokenKind) → openers kind ≡ true → (only k.LParen kind ≡ true) ⊎ ((only k.LBracket kind ≡ true) ⊎ (only k.LBrace kind ≡ true))
    unfolding same_kind
    opener_is k.LParen h = inl refl
    opener_is k.LBracket h = inr (inl refl)
    opener_is k.LBrace h = inr (inr refl)
    opener_is _ h = absurd (cc)

    pub opening_nested : Opening (g.nested o E) openers
    opening_nested t h = elim (opener_is t.kind h) [
      | inl e ↦ alive_left (g.parenthesized o E) set_or_record (t ∷ []) (opening_one k.LParen (λ _. in_parens) (λ _. alive_in_parens) t e)
      | inr more ↦ alive_right (g.parenthesized o E) set_or_record (t ∷ []) (elim more [
        | inl e ↦ alive_left (g.set o E) (g.braced o E) (t ∷ []) (opening_one k.LBracket (λ _. in_brackets) (λ _. alive_in_brackets) t e)
        | inr e ↦ alive_right (g.set o E) (g.braced o E) (t ∷ []) (opening_one k.LBrace (λ _. in_braces) (λ _. alive_in_braces) t e)
      ])
    ]
