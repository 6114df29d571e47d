-- A reader of a primary, and of what is asked of it, stops for a token at no place at which one ends.
use Rattle.std.proofs.Common.{◌≡◌, ◌⊎◌, inl, inr, Bool, true, false, List, [], ◌∷◌, Option, Some, None, refl}
use mathlib.Core.Path.{fun_ext}
use Rattle.grammar_syntax.specs.declared.token.Token.{Token}
use Rattle.grammar_syntax.specs.declared.token.TokenKind.{TokenKind}
use Rattle.grammar_syntax.specs.declared.token.TokenKind.TheVariants as k
use Rattle.grammar_syntax.specs.declared.name_trees.PathTree.{PathTree}
use Rattle.grammar_syntax.specs.declared.tree.Access.TheVariants as access
use Rattle.grammar_syntax.specs.declared.tree.KeyTree.TheVariants.{Quoted}
use Rattle.grammar_syntax.specs.declared.tree.RequestKeyword.{RequestKeyword}
use Rattle.grammar_syntax.specs.declared.tree.ExprTree.{ExprTree}
use Rattle.grammar_syntax.specs.declared.tree.ExprTree.TheVariants as tree
use Rattle.grammar_syntax.specs.Kinds.{Kinds, only, same_kind}
use Rattle.grammar_syntax.specs.Lang.{Lang}
use Rattle.grammar_syntax.specs.Lang as lang
use Rattle.grammar_syntax.specs.Grammar.{identifiers}
use Rattle.grammar_parsing.specs.Expressions as g
use Rattle.grammar_parsing.specs.Expressions.{boolean_of, booleans, joined, accessed}
use Rattle.grammar_syntax.specs.ParserCombinators.{Parser, ◌>>=◌, ◌>>◌, pure}
use Rattle.grammar_parsing.specs.inner.Reading as r
use Rattle.grammar_parsing.specs.inner.Reading.{openers, access_firsts, path_of, name_by, variable_at}
use Rattle.grammar_syntax.specs.Parsing.{ends, uid_tree}
use Rattle.grammar_syntax.proofs.Sets.{apart, within}
use Rattle.grammar_syntax.proofs.Rules.{Rule, Levels}
use Rattle.grammar_syntax.proofs.Forms.{Starts, of, one, nothing, leads_starts, leads_empty}
use Rattle.grammar_syntax.proofs.Forms.{leads_or, leads_both, leads_many, alive_empty, alive_left}
use Rattle.grammar_syntax.proofs.Forms.{alive_right}
use Rattle.grammar_syntax.proofs.Many.{each}
use Rattle.grammar_syntax.proofs.Steps.{none, seq, free, behind, go_one, leads_one}
use Rattle.grammar_syntax.proofs.NameRules.{segments, segments_rule}
use Rattle.grammar_syntax.proofs.NamesFirm.{firm_segments}
use Rattle.grammar_syntax.proofs.Openings.{Opening, opening_one, giving}
use Rattle.grammar_syntax.proofs.Firm.{Firm, Fresh, solid_starts, solid_or, fresh_opening, firm_free}
use Rattle.grammar_syntax.proofs.Firm.{firm_nothing, firm_never, firm_same, firm_alike, firm_seq}
use Rattle.grammar_syntax.proofs.Firm.{firm_token, firm_giving, firm_or, firm_gated, firm_each}
use Rattle.grammar_parsing.proofs.Follows.{after_named, after_access, after_member, after_expr, after_arguments}
use Rattle.grammar_parsing.proofs.Follows.{after_entries}
use Rattle.grammar_parsing.proofs.NamedRules.{rest_of_call, variable_by, behind_by, behind_pieces, factored}
use Rattle.grammar_parsing.proofs.NamedRules.{leads_variable, same_named}
use Rattle.grammar_parsing.proofs.AlivePrimaries.{other_firsts, literal_firsts}
use Rattle.grammar_parsing.proofs.SymbolRules.{symbol_rule}
use Rattle.grammar_parsing.proofs.PrimaryRules.{Inner, read_chain, regrouped, rest_of_pieces}
use Rattle.grammar_parsing.proofs.AlivePrimaries as primaries
use Rattle.grammar_parsing.proofs.PrimaryRules as primary_rules

-- a piece, and others behind it
pub firm_chain : {A : Type 0} (L : Lang ExprTree) (p : Parser ExprTree) (I : Lang A) (s : Parser A) (make : ExprTree → List A → ExprTree) (ks is hs js : Kinds) (D : Levels)
    → within is js ≡ true → within hs js ≡ true → within ks js ≡ true → within js js ≡ true → apart ks is ≡ true → apart ks hs ≡ true
    → Starts I ks → Rule L L p p is D → Rule I I s s hs D → Firm L p → Firm I s → Fresh ks s → Firm (g.chain L I make) (read_chain p ks s make)
firm_chain L p I s make ks is hs js D ij hj kj jj ki kh starts first piece firm firm_piece fresh =
    firm_seq first
    (λ x. seq (each I I s s ks hs js D piece starts kh hj kj)
    (λ more. nothing (joined make x more) js D) (λ more. leads_empty (joined make x more) js js jj) (λ more. alive_empty (joined make x more)))
    (λ x. leads_both (lang.many I) (λ more. lang.empty (joined make x more)) is js js (leads_many I ks is js starts ki ij) (λ more. leads_empty (joined make x more) js js jj))
    firm
    (λ x. firm_giving (each I I s s ks hs js D piece starts kh hj kj) js jj (joined make x) (firm_each I s ks hs js D piece starts kh hj kj firm_piece fresh))

access_is : (kind : TokenKind) → access_firsts kind ≡ true → (only k.Dot kind ≡ true) ⊎ (only k.LBracket kind ≡ true)
unfolding same_kind
access_is k.Dot h = inl refl
access_is k.LBracket h = inr refl
access_is _ h = absurd (cc)

module _ (D : Levels) where
  firm_literal : Firm g.literal r.literal
  unfolding r.literal same_kind
  firm_literal =
      firm_or booleans after_named primaries.starts_boolean
      (leads_or primaries.number primaries.text booleans after_named (leads_starts primaries.number (only k.Number) booleans after_named primaries.starts_number refl) (leads_starts primaries.text (only k.Text) booleans after_named primaries.starts_text refl))
      (firm_free (giving tree.Boolean none D (symbol_rule boolean_of none D)))
      (firm_or (only k.Number) after_named primaries.starts_number (leads_starts primaries.text (only k.Text) (only k.Number) after_named primaries.starts_text refl)
      (firm_free (giving tree.Number none D (one k.Number none D))) (firm_free (giving tree.Text none D (one k.Text none D)))
      (inr (solid_starts (only k.Text) primaries.starts_text)))
      (inr (solid_or (solid_starts (only k.Number) primaries.starts_number) (solid_starts (only k.Text) primaries.starts_text)))

  firm_indexed : Firm g.indexed r.indexed
  unfolding r.indexed
  firm_indexed = firm_free
      (behind k.LBracket none D
      (seq (one k.Text none D) (λ name. behind k.RBracket none D (nothing (access.Field (Quoted name)) none D) (alive_empty (access.Field (Quoted name))))
      (λ name. free _ none) (λ name. go_one k.RBracket (λ _. alive_empty (access.Field (Quoted name)))))
      (go_one k.Text (λ name. go_one k.RBracket (λ _. alive_empty (access.Field (Quoted name))))))

  firm_variable : (found : Option RequestKeyword) → Firm (variable_by found) (r.variable_by found)
  firm_variable (Some variable) = firm_nothing (tree.Variable variable)
  firm_variable None = firm_never (r.variable_by None)

module _ (o : Bool) (E : Lang ExprTree) (p : Parser ExprTree) (D : Levels) (i : Inner o o E E p p D) (inner : o ≡ true → Firm E p) where
  -- ---- names

  firm_call : (name : PathTree) → o ≡ true → Firm (rest_of_call o E name) (r.call_of o p name)
  firm_call name h = firm_free (seq (primary_rules.called_rule o o E E p p D i h) (λ found. nothing (tree.Call name found) none D) (λ found. free _ none) (λ found. alive_empty (tree.Call name found)))

  firm_call_or_variable : (first : Token) (ts : List Token) → Firm (behind_by false o E first ts) (r.call_or_variable o p (path_of first ts))
  unfolding r.call_or_variable r.alone same_kind
  firm_call_or_variable first ts =
      firm_gated o (only k.LParen) after_named (primaries.starts_call o E (path_of first ts)) (leads_variable (variable_at first ts)) (firm_call (path_of first ts)) (firm_variable D (variable_at first ts))
      (λ h. inl (fresh_opening (primary_rules.call_rule o o E E p p D i (path_of first ts) h) (primaries.opening_call o E (path_of first ts))))

  firm_behind : (b : Bool) (first : Token) (ts : List Token) → Firm (behind_by b o E first ts) (r.named_as o p (name_by b first ts))
  firm_behind true first ts = firm_nothing (tree.Uid (uid_tree first ts))
  firm_behind false first ts = firm_call_or_variable first ts

  firm_behind_first : (first : Token) → Firm (lang.◌>>=◌ segments (behind_pieces o E first)) (r.rest_of_named o p first)
  unfolding r.rest_of_named r.rest_of_name
  firm_behind_first first =
      firm_alike (fun_ext (λ ts. regrouped (rest_of_pieces ts) _ (r.named_as o p)))
      (firm_seq (segments_rule D) (λ ts. primary_rules.behind_rule o o E E p p D i (ends false ts) first ts) (λ ts. primary_rules.leads_behind o o E E p p D i (ends false ts) first ts)
      (firm_segments D) (λ ts. firm_behind (ends false ts) first ts))

  firm_factored : Firm (factored o E) (r.named o p)
  unfolding r.named
  firm_factored = firm_seq (of identifiers none D) (primary_rules.behind_first_rule o o E E p p D i) (λ first. free _ after_named) (firm_free (of identifiers none D)) firm_behind_first

  firm_named : Firm (g.named o E) (r.named o p)
  firm_named = firm_same (same_named o E) firm_factored

  -- ---- Primary

  firm_parenthesized : o ≡ true → Firm (g.parenthesized o E) (r.parenthesized o p)
  unfolding r.parenthesized same_kind
  firm_parenthesized h = firm_free
      (behind k.LParen none D
      (seq (i.rule h) (λ x. behind k.RParen none D (nothing (tree.Parentheses x) none D) (alive_empty (tree.Parentheses x))) (λ x. leads_one k.RParen after_expr none refl) (λ x. go_one k.RParen (λ _. alive_empty (tree.Parentheses x))))
      (primaries.alive_in_parens o E (i.alive h)))

  firm_set : o ≡ true → Firm (g.set o E) (r.set o p)
  unfolding r.set same_kind
  firm_set h = firm_free
      (behind k.LBracket none D
      (seq (primary_rules.arguments_rule o o E E p p D i h) (λ found. behind k.RBracket none D (nothing (tree.Set found) none D) (alive_empty (tree.Set found))) (λ found. leads_one k.RBracket after_arguments none refl) (λ found. go_one k.RBracket (λ _. alive_empty (tree.Set found))))
      (primaries.alive_in_brackets o E))

  firm_braced : o ≡ true → Firm (g.braced o E) (r.braced o p)
  unfolding r.braced same_kind
  firm_braced h = firm_free
      (behind k.LBrace none D
      (seq (primary_rules.entries_rule o o E E p p D i h) (λ found. behind k.RBrace none D (nothing (tree.Record found) none D) (alive_empty (tree.Record found))) (λ found. leads_one k.RBrace after_entries none refl) (λ found. go_one k.RBrace (λ _. alive_empty (tree.Record found))))
      (primaries.alive_in_braces o E))

  firm_nested : o ≡ true → Firm (g.nested o E) (r.nested o p)
  unfolding r.nested same_kind
  firm_nested h =
      firm_or (only k.LParen) after_named (primaries.starts_parens o E)
      (leads_or (g.set o E) (g.braced o E) (only k.LParen) after_named
      (leads_starts (g.set o E) (only k.LBracket) (only k.LParen) after_named (primaries.starts_set o E) refl) (leads_starts (g.braced o E) (only k.LBrace) (only k.LParen) after_named (primaries.starts_braced o E) refl))
      (firm_parenthesized h)
      (firm_or (only k.LBracket) after_named (primaries.starts_set o E) (leads_starts (g.braced o E) (only k.LBrace) (only k.LBracket) after_named (primaries.starts_braced o E) refl)
      (firm_set h) (firm_braced h) (inr (solid_starts (only k.LBrace) (primaries.starts_braced o E))))
      (inr (solid_or (solid_starts (only k.LBracket) (primaries.starts_set o E)) (solid_starts (only k.LBrace) (primaries.starts_braced o E))))

  firm_primary : Firm (g.primary o E) (r.primary o p)
  unfolding r.primary
  firm_primary =
      firm_or identifiers after_named (primaries.starts_named o E) (leads_starts (primaries.other o E) other_firsts identifiers after_named (primaries.starts_other o E) refl) firm_named
      (firm_gated o openers after_named (primaries.starts_nested o E) (leads_starts g.literal literal_firsts openers after_named primaries.starts_literal refl) firm_nested (firm_literal D)
      (λ h. inr (solid_starts literal_firsts primaries.starts_literal)))
      (inr (solid_starts other_firsts (primaries.starts_other o E)))

  -- ---- Member

  firm_some : o ≡ true → Firm (primaries.call_arguments o E) (r.call_arguments o p)
  firm_some h = firm_free (giving Some none D (primary_rules.called_rule o o E E p p D i h))

  firm_maybe_called : Firm (g.maybe_called o E) (r.maybe_called o p)
  unfolding r.maybe_called same_kind
  firm_maybe_called =
      firm_gated o (only k.LParen) after_access (primaries.starts_some o E) (leads_empty None (only k.LParen) after_access refl) firm_some (firm_nothing None)
      (λ h. inl (fresh_opening (primary_rules.some_rule o o E E p p D i h) (primaries.opening_some o E)))

  accessed_rule : (name : Token) → Rule (lang.◌giving◌ (g.maybe_called o E) (accessed name)) (lang.◌giving◌ (g.maybe_called o E) (accessed name)) (r.maybe_called o p >>= (λ found. pure (accessed name found))) (r.maybe_called o p >>= (λ found. pure (accessed name found))) after_access D
  accessed_rule name =
      seq (primary_rules.maybe_called_rule o o E E p p D i) (λ found. nothing (accessed name found) after_access D) (λ found. leads_empty (accessed name found) after_access after_access refl) (λ found. alive_empty (accessed name found))

  firm_dotted : Firm (g.dotted o E) (r.dotted o p)
  unfolding r.dotted
  firm_dotted =
      firm_token k.Dot after_access D (seq (of identifiers none D) accessed_rule (λ name. free _ after_access) (primaries.alive_behind_name o E))
      (firm_seq (of identifiers none D) accessed_rule (λ name. free _ after_access) (firm_free (of identifiers none D))
      (λ name. firm_giving (primary_rules.maybe_called_rule o o E E p p D i) after_access refl (accessed name) firm_maybe_called))

  firm_accessing : Firm (primaries.accessing o E) (r.accessing o p)
  unfolding r.accessing same_kind
  firm_accessing =
      firm_or (only k.Dot) after_access (primaries.starts_dotted o E) (leads_starts g.indexed (only k.LBracket) (only k.Dot) after_access (primaries.starts_indexed o E) refl) firm_dotted (firm_indexed D)
      (inr (solid_starts (only k.LBracket) (primaries.starts_indexed o E)))

  opening_accessing : Opening (primaries.accessing o E) access_firsts
  opening_accessing t h = elim (access_is t.kind h) [
    | inl e ↦ alive_left (g.dotted o E) g.indexed (t ∷ []) (opening_one k.Dot (λ _. primaries.behind_dot o E) (λ _. primaries.alive_behind_dot o E) t e)
    | inr e ↦ alive_right (g.dotted o E) g.indexed (t ∷ []) (opening_one k.LBracket _ (λ _. go_one k.Text (λ name. go_one k.RBracket (λ _. alive_empty (access.Field (Quoted name))))) t e)
  ]

  pub firm_member : Firm (g.member o E) (r.member o p)
  unfolding r.member r.accesses
  firm_member =
      firm_chain (g.primary o E) _ (primaries.accessing o E) _ tree.Member access_firsts after_named after_access after_member D refl refl refl refl refl refl
      (primaries.starts_accessing o E) (primary_rules.primary_rule o o E E p p D i) (primary_rules.accessing_rule o o E E p p D i) firm_primary firm_accessing (fresh_opening (primary_rules.accessing_rule o o E E p p D i) opening_accessing)
