-- Literals, names, calls, lists, primaries and what is asked of them are read exactly.
use Rattle.std.proofs.Common.{◌≡◌, Bool, true, false, List, [], ◌∷◌, Option, Some, None, refl, subst}
use mathlib.Core.Path.{fun_ext}
use Rattle.grammar_syntax.specs.declared.token.Token.{Token}
use Rattle.grammar_syntax.specs.declared.token.TokenKind.TheVariants as k
use Rattle.grammar_syntax.specs.declared.name_trees.PathTree.{PathTree}
use Rattle.grammar_syntax.specs.declared.tree.Access.TheVariants as access
use Rattle.grammar_syntax.specs.declared.tree.ExprTree.{ExprTree}
use Rattle.grammar_syntax.specs.declared.tree.KeyTree.TheVariants.{Word, Quoted}
use Rattle.grammar_syntax.specs.declared.tree.ExprTree.TheVariants as tree
use Rattle.grammar_syntax.specs.declared.tree.RequestKeyword.{RequestKeyword}
use Rattle.grammar_syntax.specs.Kinds.{Kinds, only, same_kind}
use Rattle.grammar_syntax.specs.Lang.{Lang}
use Rattle.grammar_syntax.specs.Lang as lang
use Rattle.grammar_syntax.specs.Grammar.{identifiers}
use Rattle.grammar_parsing.specs.Expressions as g
use Rattle.grammar_parsing.specs.Expressions.{boolean_of, booleans, keys, joined, accessed}
use Rattle.grammar_syntax.specs.ParserCombinators.{Parser, ParseResult, Read, Stop, and_then, ◌>>=◌, ◌>>◌, pure}
use Rattle.grammar_syntax.specs.ParserCombinators.{many}
use Rattle.grammar_syntax.specs.ParserCombinators as reading
use Rattle.grammar_parsing.specs.inner.Reading as r
use Rattle.grammar_parsing.specs.inner.Reading.{openers, access_firsts, firsts, path_of, name_by, variable_at}
use Rattle.grammar_syntax.specs.Parsing.{piece, ended_by, goes_on, ends, uid_tree}
use Rattle.grammar_syntax.specs.ParseResults.{Begins}
use Rattle.grammar_syntax.proofs.Sets.{apart, within}
use Rattle.grammar_syntax.proofs.Rules.{Rule, Levels, both}
use Rattle.grammar_syntax.proofs.Forms.{Starts, Leads, of, one, nothing, refused, or, starts_both}
use Rattle.grammar_syntax.proofs.Forms.{leads_starts, leads_empty, leads_or, leads_both, leads_many}
use Rattle.grammar_syntax.proofs.Forms.{alive_empty}
use Rattle.grammar_syntax.proofs.More.{same, gated}
use Rattle.grammar_syntax.proofs.Many.{each}
use Rattle.grammar_syntax.proofs.Steps.{none, seq, free, behind, go_one, leads_one, starts_one}
use Rattle.grammar_syntax.proofs.NameRules.{segments, segments_rule}
use Rattle.grammar_syntax.proofs.Openings.{giving, opening_gate, starts_gate}
use Rattle.grammar_parsing.proofs.Follows.{after_named, after_access, after_member, after_expr, after_arguments}
use Rattle.grammar_parsing.proofs.Follows.{after_entries}
use Rattle.grammar_parsing.proofs.SymbolRules.{symbol_rule}
use Rattle.grammar_parsing.proofs.NamedRules.{rest_of_call, variable_by, behind_by, behind_pieces, factored, on}
use Rattle.grammar_parsing.proofs.NamedRules.{leads_variable, leads_variable_colons, same_named}
use Rattle.grammar_parsing.proofs.AlivePrimaries.{other_firsts, literal_firsts, entry_of}
use Rattle.grammar_parsing.proofs.AlivePrimaries as primaries

-- ---- a piece, and others behind it

abbrev pub read_chain : {A : Type 0} → Parser ExprTree → Kinds → Parser A → (ExprTree → List A → ExprTree) → Parser ExprTree
read_chain p ks s make = p >>= (λ x. many ks s >>= (λ more. pure (joined make x more)))

-- is may not follow the first piece, hs not a further one, and js not the chain
pub chain : {A : Type 0} (L K : Lang ExprTree) (p q : Parser ExprTree) (I J : Lang A) (s u : Parser A) (make : ExprTree → List A → ExprTree) (ks is hs js : Kinds) (D : Levels)
    → within is js ≡ true → within hs js ≡ true → within ks js ≡ true → within js js ≡ true → apart ks is ≡ true → apart ks hs ≡ true
    → Starts I ks → Rule L K p q is D → Rule I J s u hs D → Rule (g.chain L I make) (g.chain K J make) (read_chain p ks s make) (read_chain q ks u make) js D
chain L K p q I J s u make ks is hs js D ij hj kj jj ki kh starts first piece =
    seq first
    (λ x. seq (each I J s u ks hs js D piece starts kh hj kj)
    (λ more. nothing (joined make x more) js D) (λ more. leads_empty (joined make x more) js js jj) (λ more. alive_empty (joined make x more)))
    (λ x. leads_both (lang.many I) (λ more. lang.empty (joined make x more)) is js js (leads_many I ks is js starts ki ij) (λ more. leads_empty (joined make x more) js js jj))
    (primaries.alive_tail I make)

-- ---- literals and indices

module _ (D : Levels) where
  literal_rule : Rule g.literal g.literal r.literal r.literal after_named D
  unfolding r.literal same_kind
  literal_rule =
      or primaries.boolean primaries.boolean primaries.number_or_text primaries.number_or_text _ _ _ _ booleans after_named D (giving tree.Boolean after_named D (symbol_rule boolean_of none D))
      (or primaries.number primaries.number primaries.text primaries.text _ _ _ _ (only k.Number) after_named D (giving tree.Number after_named D (one k.Number none D)) (giving tree.Text after_named D (one k.Text none D))
      primaries.starts_number (leads_starts primaries.text (only k.Text) (only k.Number) after_named primaries.starts_text refl))
      primaries.starts_boolean
      (leads_or primaries.number primaries.text booleans after_named (leads_starts primaries.number (only k.Number) booleans after_named primaries.starts_number refl) (leads_starts primaries.text (only k.Text) booleans after_named primaries.starts_text refl))

  pub key_rule : Rule g.key g.key r.key r.key none D
  unfolding r.key same_kind
  key_rule =
      or primaries.word_key primaries.word_key primaries.quoted_key primaries.quoted_key _ _ _ _ identifiers none D (giving Word none D (of identifiers none D)) (giving Quoted none D (one k.Text none D))
      primaries.starts_word_key (leads_starts primaries.quoted_key (only k.Text) identifiers none primaries.starts_quoted_key refl)

  indexed_rule : Rule g.indexed g.indexed r.indexed r.indexed after_access D
  unfolding r.indexed
  indexed_rule =
      behind k.LBracket after_access D
      (seq (one k.Text none D) (λ name. behind k.RBracket after_access D (nothing (access.Field (Quoted name)) after_access D) (alive_empty (access.Field (Quoted name))))
      (λ name. free _ after_access) (λ name. go_one k.RBracket (λ _. alive_empty (access.Field (Quoted name)))))
      (go_one k.Text (λ name. go_one k.RBracket (λ _. alive_empty (access.Field (Quoted name)))))

  variable_rule : (found : Option RequestKeyword) → Rule (variable_by found) (variable_by found) (r.variable_by found) (r.variable_by found) after_named D
  variable_rule (Some variable) = nothing (tree.Variable variable) after_named D
  variable_rule None = refused after_named D

-- ---- readers that are alike

abbrev pub rest_of_pieces : Parser (List Token)
rest_of_pieces = reading.loop ended_by goes_on (λ ended. piece) false

pub regrouped : {A B C : Type 0} (o : ParseResult A) (f : A → Parser B) (h : B → Parser C) → and_then o (λ x. f x >>= h) ≡ and_then (and_then o f) h
regrouped (Read x rest) f h = refl
regrouped (Stop w rest) f h = refl

read_alike : {A : Type 0} {L K : Lang A} {p p' q q' : Parser A} {ks : Kinds} {D : Levels} → p ≡ p' → q ≡ q' → Rule L K p q ks D → Rule L K p' q' ks D
read_alike {L = L} {K = K} {p = p} {q' = q'} {ks = ks} {D = D} e f rule = subst (λ z. Rule L K z q' ks D) e (subst (λ z. Rule L K p z ks D) f rule)

-- ---- expressions one level deeper, as far as there are some

pub record Inner (o o' : Bool) (E F : Lang ExprTree) (p q : Parser ExprTree) (D : Levels) : Type 0 where
  pub rule : o ≡ true → Rule E F p q after_expr D
  pub starts : o ≡ true → Starts E firsts
  pub alive : o ≡ true → Begins E []
  pub wide : o ≡ true → o' ≡ true
  pub alike : D.Equal → o ≡ o'
  pub deeper : D.Deeper → o' ≡ true
  pub wide_alive : o' ≡ true → Begins F []

module _ (o o' : Bool) (E F : Lang ExprTree) (p q : Parser ExprTree) (D : Levels) (i : Inner o o' E F p q D) where
  -- ---- lists

  next_argument_rule : o ≡ true → Rule (primaries.next_argument o E) (primaries.next_argument o' F) (r.next_argument o p) (r.next_argument o' q) after_expr D
  unfolding r.next_argument
  next_argument_rule h = behind k.Comma after_expr D (i.rule h) (i.alive h)

  pub arguments_rule : o ≡ true → Rule (g.arguments o E) (g.arguments o' F) (r.arguments o p) (r.arguments o' q) after_arguments D
  unfolding r.arguments r.rest_of_arguments same_kind
  arguments_rule h =
      or (lang.◌>>=◌ E (primaries.listed o E)) (lang.◌>>=◌ F (primaries.listed o' F)) (lang.empty []) (lang.empty []) _ _ _ _ firsts after_arguments D
      (seq (i.rule h)
      (λ first. seq (each (primaries.next_argument o E) (primaries.next_argument o' F) _ _ (only k.Comma) after_expr after_arguments D (next_argument_rule h) (starts_one k.Comma (λ _. E)) refl refl refl)
      (λ more. nothing (first ∷ more) after_arguments D) (λ more. leads_empty (first ∷ more) after_arguments after_arguments refl) (λ more. alive_empty (first ∷ more)))
      (λ first. leads_both (lang.many (primaries.next_argument o E)) (λ more. lang.empty (first ∷ more)) after_expr after_arguments after_arguments
      (leads_many (primaries.next_argument o E) (only k.Comma) after_expr after_arguments (starts_one k.Comma (λ _. E)) refl refl)
      (λ more. leads_empty (first ∷ more) after_arguments after_arguments refl))
      (primaries.alive_listed o E))
      (nothing [] after_arguments D)
      (starts_both E (primaries.listed o E) firsts (i.starts h))
      (leads_empty [] firsts after_arguments refl)

  pub called_rule : o ≡ true → Rule (g.called o E) (g.called o' F) (r.called o p) (r.called o' q) none D
  unfolding r.called same_kind
  called_rule h =
      behind k.LParen none D
      (seq (arguments_rule h) (λ found. behind k.RParen none D (nothing found none D) (alive_empty found)) (λ found. leads_one k.RParen after_arguments none refl) (λ found. go_one k.RParen (λ _. alive_empty found)))
      (primaries.alive_in_call o E)

  entry_rule : o ≡ true → Rule (g.entry o E) (g.entry o' F) (r.entry o p) (r.entry o' q) after_expr D
  unfolding r.entry
  entry_rule h =
      seq (key_rule D)
      (λ key. behind k.Colon after_expr D
      (seq (i.rule h) (λ x. nothing (entry_of key x) after_expr D) (λ x. leads_empty (entry_of key x) after_expr after_expr refl) (λ x. alive_empty (entry_of key x)))
      (primaries.alive_behind_key o E (i.alive h) key))
      (λ key. free _ after_expr)
      (primaries.alive_entry_end o E (i.alive h))

  next_entry_rule : o ≡ true → Rule (primaries.next_entry o E) (primaries.next_entry o' F) (r.next_entry o p) (r.next_entry o' q) after_expr D
  unfolding r.next_entry
  next_entry_rule h = behind k.Comma after_expr D (entry_rule h) (primaries.alive_entry o E (i.alive h))

  pub entries_rule : o ≡ true → Rule (g.entries o E) (g.entries o' F) (r.entries o p) (r.entries o' q) after_entries D
  unfolding r.entries r.rest_of_entries same_kind
  entries_rule h =
      or (lang.◌>>=◌ (g.entry o E) (primaries.entered o E)) (lang.◌>>=◌ (g.entry o' F) (primaries.entered o' F)) (lang.empty []) (lang.empty []) _ _ _ _ keys after_entries D
      (seq (entry_rule h)
      (λ first. seq (each (primaries.next_entry o E) (primaries.next_entry o' F) _ _ (only k.Comma) after_expr after_entries D (next_entry_rule h) (starts_one k.Comma (λ _. g.entry o E)) refl refl refl)
      (λ more. nothing (first ∷ more) after_entries D) (λ more. leads_empty (first ∷ more) after_entries after_entries refl) (λ more. alive_empty (first ∷ more)))
      (λ first. leads_both (lang.many (primaries.next_entry o E)) (λ more. lang.empty (first ∷ more)) after_expr after_entries after_entries
      (leads_many (primaries.next_entry o E) (only k.Comma) after_expr after_entries (starts_one k.Comma (λ _. g.entry o E)) refl refl)
      (λ more. leads_empty (first ∷ more) after_entries after_entries refl))
      (primaries.alive_entered o E))
      (nothing [] after_entries D)
      (starts_both (g.entry o E) (primaries.entered o E) keys (primaries.starts_entry o E))
      (leads_empty [] keys after_entries refl)

  -- ---- names

  pub call_rule : (name : PathTree) → o ≡ true → Rule (rest_of_call o E name) (rest_of_call o' F name) (r.call_of o p name) (r.call_of o' q name) after_named D
  call_rule name h = seq (called_rule h) (λ found. nothing (tree.Call name found) after_named D) (λ found. free _ after_named) (λ found. alive_empty (tree.Call name found))

  call_or_variable_rule : (first : Token) (ts : List Token) → Rule (behind_by false o E first ts) (behind_by false o' F first ts) (r.call_or_variable o p (path_of first ts)) (r.call_or_variable o' q (path_of first ts)) after_named D
  unfolding r.call_or_variable r.alone same_kind
  call_or_variable_rule first ts =
      gated o o' (rest_of_call o E (path_of first ts)) (rest_of_call o' F (path_of first ts)) _ _ _ _ _ _ (only k.LParen) after_named D i.wide (call_rule (path_of first ts)) (variable_rule D (variable_at first ts))
      (primaries.starts_call o E (path_of first ts))
      (leads_variable (variable_at first ts))
      (λ d. opening_gate o' (rest_of_call o' F (path_of first ts)) (only k.LParen) (i.deeper d) (primaries.opening_call o' F (path_of first ts)))
      i.alike

  pub behind_rule : (b : Bool) (first : Token) (ts : List Token) → Rule (behind_by b o E first ts) (behind_by b o' F first ts) (r.named_as o p (name_by b first ts)) (r.named_as o' q (name_by b first ts)) after_named D
  behind_rule true first ts = nothing (tree.Uid (uid_tree first ts)) after_named D
  behind_rule false first ts = call_or_variable_rule first ts

  pub leads_behind : (b : Bool) (first : Token) (ts : List Token) → Leads (behind_by b o E first ts) (only k.Colons) after_named
  unfolding same_kind
  leads_behind true first ts = leads_empty (tree.Uid (uid_tree first ts)) (only k.Colons) after_named refl
  leads_behind false first ts =
      leads_or (lang.gate o (rest_of_call o E (path_of first ts))) (variable_by (variable_at first ts)) (only k.Colons) after_named
      (leads_starts (lang.gate o (rest_of_call o E (path_of first ts))) (only k.LParen) (only k.Colons) after_named (starts_gate o (rest_of_call o E (path_of first ts)) (only k.LParen) (primaries.starts_call o E (path_of first ts))) refl)
      (leads_variable_colons (variable_at first ts))

  pub behind_first_rule : (first : Token) → Rule (lang.◌>>=◌ segments (behind_pieces o E first)) (lang.◌>>=◌ segments (behind_pieces o' F first)) (r.rest_of_named o p first) (r.rest_of_named o' q first) after_named D
  unfolding r.rest_of_named r.rest_of_name
  behind_first_rule first =
      read_alike (fun_ext (λ ts. regrouped (rest_of_pieces ts) _ (r.named_as o p))) (fun_ext (λ ts. regrouped (rest_of_pieces ts) _ (r.named_as o' q)))
      (both segments segments rest_of_pieces rest_of_pieces (behind_pieces o E first) (behind_pieces o' F first) (λ ts. r.named_as o p (name_by (ends false ts) first ts)) (λ ts. r.named_as o' q (name_by (ends false ts) first ts)) (only k.Colons) after_named D
      (segments_rule D) (λ ts. behind_rule (ends false ts) first ts) (λ ts. leads_behind (ends false ts) first ts) (on o E first) (on o' F first))

  factored_rule : Rule (factored o E) (factored o' F) (r.named o p) (r.named o' q) after_named D
  unfolding r.named
  factored_rule = seq (of identifiers none D) behind_first_rule (λ first. free _ after_named) (λ first. on o E first [] [] refl)

  named_rule : Rule (g.named o E) (g.named o' F) (r.named o p) (r.named o' q) after_named D
  named_rule = same (factored o E) (g.named o E) (factored o' F) (g.named o' F) (r.named o p) (r.named o' q) after_named D (same_named o E) (same_named o' F) factored_rule

  -- ---- Primary

  parenthesized_rule : o ≡ true → Rule (g.parenthesized o E) (g.parenthesized o' F) (r.parenthesized o p) (r.parenthesized o' q) after_named D
  unfolding r.parenthesized same_kind
  parenthesized_rule h =
      behind k.LParen after_named D
      (seq (i.rule h) (λ x. behind k.RParen after_named D (nothing (tree.Parentheses x) after_named D) (alive_empty (tree.Parentheses x))) (λ x. leads_one k.RParen after_expr after_named refl) (λ x. go_one k.RParen (λ _. alive_empty (tree.Parentheses x))))
      (primaries.alive_in_parens o E (i.alive h))

  set_rule : o ≡ true → Rule (g.set o E) (g.set o' F) (r.set o p) (r.set o' q) after_named D
  unfolding r.set same_kind
  set_rule h =
      behind k.LBracket after_named D
      (seq (arguments_rule h) (λ found. behind k.RBracket after_named D (nothing (tree.Set found) after_named D) (alive_empty (tree.Set found))) (λ found. leads_one k.RBracket after_arguments after_named refl) (λ found. go_one k.RBracket (λ _. alive_empty (tree.Set found))))
      (primaries.alive_in_brackets o E)

  braced_rule : o ≡ true → Rule (g.braced o E) (g.braced o' F) (r.braced o p) (r.braced o' q) after_named D
  unfolding r.braced same_kind
  braced_rule h =
      behind k.LBrace after_named D
      (seq (entries_rule h) (λ found. behind k.RBrace after_named D (nothing (tree.Record found) after_named D) (alive_empty (tree.Record found))) (λ found. leads_one k.RBrace after_entries after_named refl) (λ found. go_one k.RBrace (λ _. alive_empty (tree.Record found))))
      (primaries.alive_in_braces o E)

  nested_rule : o ≡ true → Rule (g.nested o E) (g.nested o' F) (r.nested o p) (r.nested o' q) after_named D
  unfolding r.nested same_kind
  nested_rule h =
      or (g.parenthesized o E) (g.parenthesized o' F) (primaries.set_or_record o E) (primaries.set_or_record o' F) _ _ _ _ (only k.LParen) after_named D (parenthesized_rule h)
      (or (g.set o E) (g.set o' F) (g.braced o E) (g.braced o' F) _ _ _ _ (only k.LBracket) after_named D (set_rule h) (braced_rule h) (primaries.starts_set o E)
      (leads_starts (g.braced o E) (only k.LBrace) (only k.LBracket) after_named (primaries.starts_braced o E) refl))
      (primaries.starts_parens o E)
      (leads_or (g.set o E) (g.braced o E) (only k.LParen) after_named
      (leads_starts (g.set o E) (only k.LBracket) (only k.LParen) after_named (primaries.starts_set o E) refl) (leads_starts (g.braced o E) (only k.LBrace) (only k.LParen) after_named (primaries.starts_braced o E) refl))

  pub primary_rule : Rule (g.primary o E) (g.primary o' F) (r.primary o p) (r.primary o' q) after_named D
  unfolding r.primary
  primary_rule =
      or (g.named o E) (g.named o' F) (primaries.other o E) (primaries.other o' F) _ _ _ _ identifiers after_named D named_rule
      (gated o o' (g.nested o E) (g.nested o' F) g.literal g.literal _ _ _ _ openers after_named D i.wide nested_rule (literal_rule D)
      (primaries.starts_nested o E)
      (leads_starts g.literal literal_firsts openers after_named primaries.starts_literal refl)
      (λ d. opening_gate o' (g.nested o' F) openers (i.deeper d) (primaries.opening_nested o' F (i.wide_alive (i.deeper d))))
      i.alike)
      (primaries.starts_named o E)
      (leads_starts (primaries.other o E) other_firsts identifiers after_named (primaries.starts_other o E) refl)

  -- ---- Member

  pub some_rule : o ≡ true → Rule (primaries.call_arguments o E) (primaries.call_arguments o' F) (r.call_arguments o p) (r.call_arguments o' q) after_access D
  some_rule h = giving Some after_access D (called_rule h)

  pub maybe_called_rule : Rule (g.maybe_called o E) (g.maybe_called o' F) (r.maybe_called o p) (r.maybe_called o' q) after_access D
  unfolding r.maybe_called same_kind
  maybe_called_rule =
      gated o o' (primaries.call_arguments o E) (primaries.call_arguments o' F) (lang.empty None) (lang.empty None) _ _ _ _ (only k.LParen) after_access D i.wide some_rule (nothing None after_access D)
      (primaries.starts_some o E)
      (leads_empty None (only k.LParen) after_access refl)
      (λ d. opening_gate o' (primaries.call_arguments o' F) (only k.LParen) (i.deeper d) (primaries.opening_some o' F))
      i.alike

  dotted_rule : Rule (g.dotted o E) (g.dotted o' F) (r.dotted o p) (r.dotted o' q) after_access D
  unfolding r.dotted
  dotted_rule =
      behind k.Dot after_access D
      (seq (of identifiers none D)
      (λ name. seq maybe_called_rule (λ found. nothing (accessed name found) after_access D) (λ found. leads_empty (accessed name found) after_access after_access refl) (λ found. alive_empty (accessed name found)))
      (λ name. free _ after_access)
      (primaries.alive_behind_name o E))
      (primaries.alive_behind_dot o E)

  pub accessing_rule : Rule (primaries.accessing o E) (primaries.accessing o' F) (r.accessing o p) (r.accessing o' q) after_access D
  unfolding r.accessing same_kind
  accessing_rule =
      or (g.dotted o E) (g.dotted o' F) g.indexed g.indexed _ _ _ _ (only k.Dot) after_access D dotted_rule (indexed_rule D)
      (primaries.starts_dotted o E)
      (leads_starts g.indexed (only k.LBracket) (only k.Dot) after_access (primaries.starts_indexed o E) refl)

  pub member_rule : Rule (g.member o E) (g.member o' F) (r.member o p) (r.member o' q) after_member D
  unfolding r.member r.accesses
  member_rule =
      chain (g.primary o E) (g.primary o' F) _ _ (primaries.accessing o E) (primaries.accessing o' F) _ _ tree.Member access_firsts after_named after_access after_member D refl refl refl refl refl refl
      (primaries.starts_accessing o E) primary_rule accessing_rule
