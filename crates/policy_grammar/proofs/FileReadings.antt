-- Expressions of two texts whose tokens are the same say the same: one rule a production.
use Rattle.std.proofs.Common.{◌≡◌, ℕ, zero, suc, Bool, List, [], ◌∷◌, map, Option, Some, None, refl, ap}
use Rattle.std.specs.List.{AllZip}
use Rattle.grammar_desugaring.specs.grammar_syntax.declared.token.TokenKind.{TokenKind}
use Rattle.grammar_desugaring.specs.grammar_syntax.declared.token.TokenKind.TheVariants as k
use Rattle.grammar_desugaring.specs.grammar_syntax.declared.token.Token.{Token}
use Rattle.grammar_desugaring.specs.grammar_syntax.Lexing.{spelling_of}
use Rattle.plain.specs.Words.{joined_path}
use Rattle.grammar_desugaring.specs.grammar_syntax.Kinds.{only}
use Rattle.grammar_desugaring.specs.grammar_syntax.Lang as lang
use Rattle.grammar_desugaring.specs.grammar_syntax.Lang.{Lang}
use Rattle.grammar_desugaring.specs.grammar_syntax.Grammar as names
use Rattle.grammar_desugaring.specs.grammar_syntax.Grammar.{identifiers}
use Rattle.grammar_desugaring.specs.grammar_syntax.declared.name_trees.PathTree.{PathTree}
use Rattle.grammar_desugaring.specs.grammar_syntax.declared.tree.ExprTree.{ExprTree}
use Rattle.grammar_desugaring.specs.grammar_syntax.declared.tree.ExprTree.TheVariants as t
use Rattle.grammar_desugaring.specs.grammar_syntax.declared.tree.KeyTree.TheVariants.{Word, Quoted}
use Rattle.grammar_parsing.specs.Expressions as e
use Rattle.grammar_parsing.specs.Expressions.{boolean_of, variable_of, sign_of, comparison_of, patterns}
use Rattle.grammar_parsing.specs.Expressions.{joined, accessed, is_in, is_positive, expr}
use Rattle.grammar_desugaring.specs.Strings.{value_of}
use Rattle.grammar_core.specs.Operators.{function_of}
use Rattle.grammar_desugaring.specs.Core.{function_at}
use Rattle.policy_grammar.proofs.Kin.{Same, Kin, Both, of_kin, empty_kin, both_kin, giving_kin, or_kin, maybe_kin}
use Rattle.policy_grammar.proofs.Kin.{many_kin, gate_kin, symbol_kin, behind_kin}
use Rattle.policy_grammar.proofs.Forms.{same_maps, SameTree, SamePath, SameUid, SameKey, SameEntry, SameTerm, SameAccess}
use Rattle.policy_grammar.proofs.Forms as form

module _ (text part : List ℕ) where
  spellings : (xs ys : List Token) → AllZip (Same text part) xs ys → map (spelling_of text) xs ≡ map (spelling_of part) ys
  spellings [] [] h = refl
  spellings [] (y ∷ ys) h = absurd h
  spellings (x ∷ xs) [] h = absurd h
  spellings (x ∷ xs) (y ∷ ys) h = λ i. h.0.spelled i ∷ spellings xs ys h.1 i

  functions : (a b : Token) (xs ys : List Token) → Same text part a b → AllZip (Same text part) xs ys → function_at text a xs ≡ function_at part b ys
  functions a b [] [] s h = ap function_of s.spelled
  functions a b [] (y ∷ ys) s h = absurd h
  functions a b (x ∷ xs) [] s h = absurd h
  functions a b (x ∷ xs) (y ∷ ys) s h = refl

  paths : (a b : Token) (xs ys : List Token) → Same text part a b → AllZip (Same text part) xs ys
      → SamePath text part (record { first = a; more = xs }) (record { first = b; more = ys })
  paths a b xs ys s h = (λ i. joined_path (s.spelled i) (spellings xs ys h i), functions a b xs ys s h)

  pub path_kin : Kin text part names.path names.path (SamePath text part)
  path_kin =
      both_kin text part (of_kin text part identifiers)
      (λ a b s. both_kin text part (many_kin text part (behind_kin text part k.Colons (of_kin text part identifiers)))
      (λ xs ys h. empty_kin text part _ _ _ (paths a b xs ys s h)))

  pub uid_kin : Kin text part names.uid names.uid (SameUid text part)
  uid_kin =
      both_kin text part path_kin
      (λ p q s. behind_kin text part k.Colons
      (both_kin text part (of_kin text part (only k.Text)) (λ a b h. empty_kin text part _ _ _ (λ i. record { type_name = s.0 i; id = value_of (h.spelled i) }))))

  -- ---- expressions

  joined_same : {A : Type 0} (S : A → A → Type 0) (make : ExprTree → List A → ExprTree) → ((x y : ExprTree) (xs ys : List A) → SameTree text part x y → AllZip S xs ys → SameTree text part (make x xs) (make y ys))
      → (x y : ExprTree) (xs ys : List A) → SameTree text part x y → AllZip S xs ys → SameTree text part (joined make x xs) (joined make y ys)
  joined_same S make each x y [] [] s h = s
  joined_same S make each x y [] (b ∷ ys) s h = absurd h
  joined_same S make each x y (a ∷ xs) [] s h = absurd h
  joined_same S make each x y (a ∷ xs) (b ∷ ys) s h = each x y (a ∷ xs) (b ∷ ys) s h

  chain_kin : {A : Type 0} (S : A → A → Type 0) (first : Lang ExprTree) (piece : Lang A) (make : ExprTree → List A → ExprTree) → Kin text part first first (SameTree text part) → Kin text part piece piece S
      → ((x y : ExprTree) (xs ys : List A) → SameTree text part x y → AllZip S xs ys → SameTree text part (make x xs) (make y ys))
      → Kin text part (e.chain first piece make) (e.chain first piece make) (SameTree text part)
  chain_kin S first piece make f p each =
      both_kin text part f (λ x y s. both_kin text part (many_kin text part p) (λ xs ys h. empty_kin text part _ _ _ (joined_same S make each x y xs ys s h)))

  literal_kin : Kin text part e.literal e.literal (SameTree text part)
  literal_kin =
      or_kin text part (giving_kin text part _ t.Boolean t.Boolean (symbol_kin text part boolean_of) (form.same-Boolean text part))
      (or_kin text part (giving_kin text part _ t.Number t.Number (of_kin text part (only k.Number)) (form.same-Number text part))
      (giving_kin text part _ t.Text t.Text (of_kin text part (only k.Text)) (form.same-Text text part)))

  key_kin : Kin text part e.key e.key (SameKey text part)
  key_kin =
      or_kin text part (giving_kin text part _ Word Word (of_kin text part identifiers) (λ a b s. s.spelled))
      (giving_kin text part _ Quoted Quoted (of_kin text part (only k.Text)) (λ a b s. ap value_of s.spelled))

  indexed_kin : Kin text part e.indexed e.indexed (SameAccess text part)
  indexed_kin =
      behind_kin text part k.LBracket
      (both_kin text part (of_kin text part (only k.Text)) (λ a b s. behind_kin text part k.RBracket (empty_kin text part _ _ _ (ap value_of s.spelled))))

  -- over the expressions of one level less
  module _ (may : Bool) (inner : Lang ExprTree) (each : Kin text part inner inner (SameTree text part)) where
    arguments_kin : Kin text part (e.arguments may inner) (e.arguments may inner) (AllZip (SameTree text part))
    arguments_kin =
        or_kin text part
        (both_kin text part each (λ x y s. both_kin text part (many_kin text part (behind_kin text part k.Comma each)) (λ xs ys h. empty_kin text part _ _ _ (s, h))))
        (empty_kin text part _ _ _ tt)

    called_kin : Kin text part (e.called may inner) (e.called may inner) (AllZip (SameTree text part))
    called_kin = behind_kin text part k.LParen (both_kin text part arguments_kin (λ xs ys h. behind_kin text part k.RParen (empty_kin text part _ _ _ h)))

    call_kin : Kin text part (e.call may inner) (e.call may inner) (SameTree text part)
    call_kin = both_kin text part path_kin (λ p q s. both_kin text part called_kin (λ xs ys h. empty_kin text part _ _ _ (form.same-Call text part p q xs ys s h)))

    named_kin : Kin text part (e.named may inner) (e.named may inner) (SameTree text part)
    named_kin =
        or_kin text part (giving_kin text part _ t.Variable t.Variable (symbol_kin text part variable_of) (form.same-Variable text part))
        (or_kin text part (giving_kin text part _ t.Uid t.Uid uid_kin (form.same-Uid text part)) (gate_kin text part may call_kin))

    parenthesized_kin : Kin text part (e.parenthesized may inner) (e.parenthesized may inner) (SameTree text part)
    parenthesized_kin =
        behind_kin text part k.LParen (both_kin text part each (λ x y s. behind_kin text part k.RParen (empty_kin text part _ _ _ (form.same-Parentheses text part x y s))))

    set_kin : Kin text part (e.set may inner) (e.set may inner) (SameTree text part)
    set_kin =
        behind_kin text part k.LBracket (both_kin text part arguments_kin (λ xs ys h. behind_kin text part k.RBracket (empty_kin text part _ _ _ (form.same-Set text part xs ys h))))

    entry_kin : Kin text part (e.entry may inner) (e.entry may inner) (SameEntry text part)
    entry_kin =
        both_kin text part key_kin (λ a b s. behind_kin text part k.Colon (both_kin text part each (λ x y h. empty_kin text part _ _ _ (s, h))))

    entries_kin : Kin text part (e.entries may inner) (e.entries may inner) (AllZip (SameEntry text part))
    entries_kin =
        or_kin text part
        (both_kin text part entry_kin (λ x y s. both_kin text part (many_kin text part (behind_kin text part k.Comma entry_kin)) (λ xs ys h. empty_kin text part _ _ _ (s, h))))
        (empty_kin text part _ _ _ tt)

    braced_kin : Kin text part (e.braced may inner) (e.braced may inner) (SameTree text part)
    braced_kin =
        behind_kin text part k.LBrace (both_kin text part entries_kin (λ xs ys h. behind_kin text part k.RBrace (empty_kin text part _ _ _ (form.same-Record text part xs ys h))))

    nested_kin : Kin text part (e.nested may inner) (e.nested may inner) (SameTree text part)
    nested_kin = or_kin text part parenthesized_kin (or_kin text part set_kin braced_kin)

    primary_kin : Kin text part (e.primary may inner) (e.primary may inner) (SameTree text part)
    primary_kin = or_kin text part named_kin (or_kin text part (gate_kin text part may nested_kin) literal_kin)

    maybe_called_kin : Kin text part (e.maybe_called may inner) (e.maybe_called may inner) (Both text part (AllZip (SameTree text part)))
    maybe_called_kin =
        or_kin text part (gate_kin text part may (giving_kin text part _ Some Some called_kin (λ xs ys h. h))) (empty_kin text part _ None None tt)

    accessed_same : (a b : Token) (x y : Option (List ExprTree)) → Same text part a b → Both text part (AllZip (SameTree text part)) x y → SameAccess text part (accessed a x) (accessed b y)
    accessed_same a b None None s h = s.spelled
    accessed_same a b None (Some ys) s h = absurd h
    accessed_same a b (Some xs) None s h = absurd h
    accessed_same a b (Some xs) (Some ys) s h = (s, h)

    dotted_kin : Kin text part (e.dotted may inner) (e.dotted may inner) (SameAccess text part)
    dotted_kin =
        behind_kin text part k.Dot
        (both_kin text part (of_kin text part identifiers) (λ a b s. both_kin text part maybe_called_kin (λ x y h. empty_kin text part _ _ _ (accessed_same a b x y s h))))

    member_kin : Kin text part (e.member may inner) (e.member may inner) (SameTree text part)
    member_kin =
        chain_kin (SameAccess text part) (e.primary may inner) (lang.◌or◌ (e.dotted may inner) e.indexed) t.Member primary_kin (or_kin text part dotted_kin indexed_kin) (form.same-Member text part)

    signed_kin : (sign : TokenKind) (make : ExprTree → ExprTree) (n : ℕ) → ((x y : ExprTree) → SameTree text part x y → SameTree text part (make x) (make y))
        → Kin text part (e.signed may inner sign make n) (e.signed may inner sign make n) (SameTree text part)
    signed_kin sign make zero h ts us x same d = member_kin ts us x same d
    signed_kin sign make (suc n) h ts us x same d =
        or_kin text part (behind_kin text part sign (both_kin text part (signed_kin sign make n h) (λ x y s. empty_kin text part _ _ _ (h x y s)))) member_kin ts us x same d

    unary_kin : Kin text part (e.unary may inner) (e.unary may inner) (SameTree text part)
    unary_kin = or_kin text part (signed_kin k.Not t.Not 4 (form.same-Not text part)) (signed_kin k.Minus t.Minus 4 (form.same-Minus text part))

    product_kin : Kin text part (e.product may inner) (e.product may inner) (SameTree text part)
    product_kin =
        chain_kin (SameTree text part) (e.unary may inner) (lang.◌>>◌ (lang.one k.Star) (e.unary may inner)) t.Product unary_kin (behind_kin text part k.Star unary_kin) (form.same-Product text part)

    term_kin : Kin text part (e.term may inner) (e.term may inner) (SameTerm text part)
    term_kin = both_kin text part (symbol_kin text part sign_of) (λ a b s. both_kin text part product_kin (λ x y h. empty_kin text part _ _ _ (s, h)))

    sum_kin : Kin text part (e.sum may inner) (e.sum may inner) (SameTree text part)
    sum_kin = chain_kin (SameTerm text part) (e.product may inner) (e.term may inner) t.Sum product_kin term_kin (form.same-Sum text part)

    compared_kin : (x y : ExprTree) → SameTree text part x y → Kin text part (e.compared may inner x) (e.compared may inner y) (SameTree text part)
    compared_kin x y s =
        both_kin text part (symbol_kin text part comparison_of) (λ o p h. both_kin text part sum_kin (λ a b l. empty_kin text part _ _ _ (form.same-Compare text part x y a b o p s h l)))

    has_kin : (x y : ExprTree) → SameTree text part x y → Kin text part (e.has may inner x) (e.has may inner y) (SameTree text part)
    has_kin x y s = behind_kin text part k.Has (both_kin text part key_kin (λ a b h. empty_kin text part _ _ _ (form.same-Has text part x y a b s h)))

    like_kin : (x y : ExprTree) → SameTree text part x y → Kin text part (e.like may inner x) (e.like may inner y) (SameTree text part)
    like_kin x y s = behind_kin text part k.Like (both_kin text part (of_kin text part patterns) (λ a b h. empty_kin text part _ _ _ (form.same-Like text part x y a b s h)))

    is_in_same : (x y : ExprTree) (p q : PathTree) (a b : Option ExprTree) → SameTree text part x y → SamePath text part p q → Both text part (SameTree text part) a b
        → SameTree text part (is_in x p a) (is_in y q b)
    is_in_same x y p q None None s h l = form.same-Is text part x y p q s h
    is_in_same x y p q None (Some b) s h l = absurd l
    is_in_same x y p q (Some a) None s h l = absurd l
    is_in_same x y p q (Some a) (Some b) s h l = form.same-IsIn text part x y a b p q s h l

    typed_kin : (x y : ExprTree) → SameTree text part x y → Kin text part (e.type_test may inner x) (e.type_test may inner y) (SameTree text part)
    typed_kin x y s =
        behind_kin text part k.Is
        (both_kin text part path_kin
        (λ p q h. both_kin text part (maybe_kin text part (behind_kin text part k.In sum_kin)) (λ a b l. empty_kin text part _ _ _ (is_in_same x y p q a b s h l))))

    relation_kin : Kin text part (e.relation may inner) (e.relation may inner) (SameTree text part)
    relation_kin =
        both_kin text part sum_kin
        (λ x y s. or_kin text part (compared_kin x y s) (or_kin text part (has_kin x y s) (or_kin text part (like_kin x y s) (or_kin text part (typed_kin x y s) (empty_kin text part _ x y s)))))

    conjunction_kin : Kin text part (e.conjunction may inner) (e.conjunction may inner) (SameTree text part)
    conjunction_kin =
        chain_kin (SameTree text part) (e.relation may inner) (lang.◌>>◌ (lang.one k.And) (e.relation may inner)) t.And relation_kin (behind_kin text part k.And relation_kin) (form.same-And text part)

    disjunction_kin : Kin text part (e.disjunction may inner) (e.disjunction may inner) (SameTree text part)
    disjunction_kin =
        chain_kin (SameTree text part) (e.conjunction may inner) (lang.◌>>◌ (lang.one k.Or) (e.conjunction may inner)) t.Or conjunction_kin (behind_kin text part k.Or conjunction_kin) (form.same-Or text part)

    conditional_kin : Kin text part (e.conditional may inner) (e.conditional may inner) (SameTree text part)
    conditional_kin =
        behind_kin text part k.If
        (both_kin text part each
        (λ a x h. both_kin text part (behind_kin text part k.Then each)
        (λ b y l. both_kin text part (behind_kin text part k.Else each)
        (λ c z m. empty_kin text part _ _ _ (form.same-If text part a b c x y z h l m)))))

    level_kin : Kin text part (e.level may inner) (e.level may inner) (SameTree text part)
    level_kin = or_kin text part (gate_kin text part may conditional_kin) disjunction_kin

  pub expr_kin : (levels : ℕ) → Kin text part (expr levels) (expr levels) (SameTree text part)
  unfolding expr
  expr_kin zero ts us x same d = absurd d
  expr_kin (suc levels) ts us x same d = level_kin (is_positive levels) (expr levels) (expr_kin levels) ts us x same d
