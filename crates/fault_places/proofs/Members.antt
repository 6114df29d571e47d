-- The operands of a node of accesses: what is accessed, and a method's argument.
use Rattle.std.proofs.Common.{◌≡◌, ℕ, ◌+◌, ◌-◌, ◌++◌, List, [], ◌∷◌, length, take, drop, map, Option, Some, None, refl, sym, ap, ◌∙◌, subst, arith, append_assoc}
use Rattle.std.specs.List.{slice_get, fold}
use Rattle.std.specs.Option.{option_and_then}
use Rattle.std.proofs.Math.Seq.{take-append_seam}
use Rattle.grammar_syntax.specs.declared.token.Token.{Token}
use Rattle.grammar_syntax.specs.declared.token.TokenKind.TheVariants as k
use Rattle.grammar_syntax.specs.Kinds.{only}
use Rattle.grammar_syntax.specs.Lang.{Lang, many}
use Rattle.grammar_syntax.specs.Lang as lang
use Rattle.grammar_syntax.specs.Lexing.{spelling_of}
use Rattle.grammar_syntax.specs.Grammar.{identifiers}
use Rattle.grammar_syntax.specs.declared.tree.Access.{Access}
use Rattle.grammar_syntax.specs.declared.tree.Access.TheVariants as access
use Rattle.grammar_syntax.specs.declared.tree.KeyTree.TheVariants.{Quoted}
use Rattle.grammar_syntax.specs.declared.tree.ExprTree.{ExprTree, out-ExprTree}
use Rattle.grammar_syntax.specs.declared.tree.ExprTree.TheVariants as t
use Rattle.grammar_core.specs.declared.expr.Expr.{Expr}
use Rattle.grammar_core.specs.declared.expr.Expr.TheVariants as core
use Rattle.grammar_parsing.specs.Expressions as g
use Rattle.grammar_parsing.specs.Expressions.{expr, any_expr, is_positive, accessed}
use Rattle.fault_places.specs.TokenCounts.{tree_count, access_tree_count, total}
use Rattle.typing.specs.Places.{operands_of, operands_in}
use Rattle.grammar_core.specs.Operators.{method_of}
use Rattle.policy_grammar.specs.grammar_desugaring.Core.{core_of, method_called}
use Rattle.fault_places.specs.Forms.{Form, whole, left_at, member_at, access_at, argument_at, operand, operand_step}
use Rattle.fault_places.proofs.LanguageCounts.{many_fits, or_fits}
use Rattle.fault_places.proofs.ExpressionCounts.{expr_fits, dotted_fits, indexed_fits}
use Rattle.fault_places.proofs.Languages.{Shows, both_shows, past_shows, token_shows, end_shows, nothing_shows, or_shows, gate_shows}
use Rattle.fault_places.proofs.Lifting.{any_inner, primary_up}
use Rattle.fault_places.proofs.Lists.{ends_here, ends_later, get_middle, past, in_none, in_one, in_two, some_same, none_some}
use Rattle.fault_places.proofs.Chains.{before_next, any_count}
use Rattle.fault_places.proofs.Methods.{method_shows}
use Rattle.fault_places.proofs.Standing.{Chained, whole_stands, member_stands, Next, access_step}

-- ## Operands of what a method is

module _ (Q : ℕ → Expr → Type 0) (e : Expr) (q : Q 0 e) where
  method_operands : (w : List ℕ) (ys : List Expr) → ((z : Expr) → slice_get ys 0 ≡ Some z → Q 1 z)
      → (i : ℕ) (y : Expr) → slice_get (operands_of (method_called (method_of w) e ys)) i ≡ Some y → Q i y
  method_operands =
      method_shows e
      (λ ys x. ((z : Expr) → slice_get ys 0 ≡ Some z → Q 1 z) → (i : ℕ) (y : Expr) → slice_get (operands_of x) i ≡ Some y
      → Q i y)
      (λ ys r i y h. in_none Q i y (ap (λ z. slice_get (operands_in z) i) (sym (core.outs-Literal _)) ∙ h))
      (λ ys call r i y h. in_one Q e q i y (ap (λ z. slice_get (operands_in z) i) (sym (core.outs-UnaryCall call e)) ∙ h))
      (λ a more op r i y h. in_two Q e a q (r a refl) i y
      (ap (λ z. slice_get (operands_in z) i) (sym (core.outs-Binary op e a)) ∙ h))
      (λ a more call r i y h. in_two Q e a q (r a refl) i y
      (ap (λ z. slice_get (operands_in z) i) (sym (core.outs-BinaryCall call e a)) ∙ h))

  access_operands : (text : List ℕ) (x : Access (List ExprTree))
      → ((name : Token) (arguments : List ExprTree) (z : Expr) → x ≡ access.Method name arguments
      → slice_get (map (core_of text) arguments) 0 ≡ Some z → Q 1 z)
      → (i : ℕ) (y : Expr) → slice_get (operands_of (access_step text e x)) i ≡ Some y → Q i y
  access_operands text (access.Field key) r i y h =
      in_one Q e q i y (ap (λ z. slice_get (operands_in z) i) (sym (core.outs-Field e _)) ∙ h)
  access_operands text (access.Method name arguments) r i y h =
      method_operands (spelling_of text name) (map (core_of text) arguments)
      (λ z. r name arguments z refl) i y h

-- ## The tokens of a method's first argument

-- the first of some items stands in front
abbrev Starts : List Token → List ExprTree → Type 0
Starts ts [] = Unit {0}
Starts ts (b ∷ more) = (us : List Token) × (vs : List Token) × (ts ≡ us ++ vs) × any_expr us b

abbrev MaybeStarts : List Token → Option (List ExprTree) → Type 0
MaybeStarts ts None = Unit {0}
MaybeStarts ts (Some xs) = (t : Token) × (us : List Token) × (ts ≡ t ∷ us) × Starts us xs

abbrev HasArgument : List Token → Access (List ExprTree) → Type 0
HasArgument ts (access.Field key) = Unit {0}
HasArgument ts (access.Method name arguments) =
    (dot : Token) × (word : Token) × (paren : Token) × (us : List Token) × (ts ≡ dot ∷ word ∷ paren ∷ us)
    × Starts us arguments

more_start : (us vs : List Token) (xs : List ExprTree) → Starts us xs → Starts (us ++ vs) xs
more_start us vs [] s = tt
more_start us vs (b ∷ more) s =
    (s.0, s.1 ++ vs, ap (λ ts. ts ++ vs) s.2 ∙ append_assoc s.0 s.1 vs, s.3)

has_argument : (dot word : Token) (ts : List Token) (found : Option (List ExprTree)) → MaybeStarts ts found
    → HasArgument (dot ∷ word ∷ ts) (accessed word found)
has_argument dot word ts None m = tt
has_argument dot word ts (Some xs) m = (dot, word, m.0, m.1, ap (λ us. dot ∷ word ∷ us) m.2, m.3)

module _ (levels : ℕ) where
  arguments_start : Shows (g.arguments (is_positive levels) (expr levels)) Starts
  arguments_start =
      or_shows Starts
      (both_shows Starts
      (λ us a d. both_shows (λ vs b. Starts (us ++ vs) b)
      (λ vs more dm. nothing_shows (a ∷ more) (λ ws b. Starts (us ++ (vs ++ ws)) b)
      (us, vs ++ [], refl, any_inner levels us a d))))
      (nothing_shows [] Starts tt)

  called_start : Shows (g.called (is_positive levels) (expr levels))
      (λ ts xs. (t : Token) × (us : List Token) × (ts ≡ t ∷ us) × Starts us xs)
  called_start =
      past_shows (only k.LParen) (λ ts xs. (t : Token) × (us : List Token) × (ts ≡ t ∷ us) × Starts us xs)
      (λ paren. both_shows (λ vs xs. (t : Token) × (us : List Token) × (paren ∷ vs ≡ t ∷ us) × Starts us xs)
      (λ us found d. past_shows (only k.RParen)
      (λ vs xs. (t : Token) × (ws : List Token) × (paren ∷ (us ++ vs) ≡ t ∷ ws) × Starts ws xs)
      (λ closing. nothing_shows found
      (λ vs xs. (t : Token) × (ws : List Token) × (paren ∷ (us ++ closing ∷ vs) ≡ t ∷ ws) × Starts ws xs)
      (paren, us ++ closing ∷ [], refl, more_start us (closing ∷ []) found (arguments_start us found d)))))

  maybe_start : Shows (g.maybe_called (is_positive levels) (expr levels)) MaybeStarts
  maybe_start =
      or_shows MaybeStarts
      (gate_shows MaybeStarts (is_positive levels) (lang.◌giving◌ (g.called (is_positive levels) (expr levels)) (λ xs. Some xs))
      (end_shows (λ xs. Some xs) MaybeStarts (λ us xs d. called_start us xs d)))
      (nothing_shows None MaybeStarts tt)

  dotted_has : Shows (g.dotted (is_positive levels) (expr levels)) HasArgument
  dotted_has =
      past_shows (only k.Dot) HasArgument
      (λ dot. token_shows identifiers (λ vs x. HasArgument (dot ∷ vs) x)
      (λ word. end_shows (λ found. accessed word found) (λ vs x. HasArgument (dot ∷ word ∷ vs) x)
      (λ us found d. has_argument dot word us found (maybe_start us found d))))

  indexed_has : Shows g.indexed HasArgument
  indexed_has =
      past_shows (only k.LBracket) HasArgument
      (λ opening. token_shows (only k.Text) (λ vs x. HasArgument (opening ∷ vs) x)
      (λ name. past_shows (only k.RBracket) (λ vs x. HasArgument (opening ∷ name ∷ vs) x)
      (λ closing. nothing_shows (access.Field (Quoted name)) (λ vs x. HasArgument (opening ∷ name ∷ closing ∷ vs) x) tt)))

  abbrev Piece : Lang (Access (List ExprTree))
  Piece = lang.◌or◌ (g.dotted (is_positive levels) (expr levels)) g.indexed

  piece_has : Shows (lang.◌or◌ (g.dotted (is_positive levels) (expr levels)) g.indexed) HasArgument
  piece_has = or_shows HasArgument dotted_has indexed_has

  pub accesses_count : (ts : List Token) (xs : List (Access (List ExprTree)))
      → many (lang.◌or◌ (g.dotted (is_positive levels) (expr levels)) g.indexed) ts xs
      → length ts ≡ total (map access_tree_count xs)
  accesses_count =
      many_fits (lang.◌or◌ (g.dotted (is_positive levels) (expr levels)) g.indexed) access_tree_count
      (or_fits (λ x n. n ≡ access_tree_count x)
      (dotted_fits (is_positive levels) (expr levels) (expr_fits levels)) indexed_fits)

  module _ (text : List ℕ) (f : Form) (e : Expr)
      (c : Chained (g.primary (is_positive levels) (expr levels))
      (lang.◌or◌ (g.dotted (is_positive levels) (expr levels)) g.indexed) t.Member (access_step text) text f e) where
    member_is : (i : ℕ) → operand f i
        ≡ member_at f c.head (c.init ++ c.last ∷ c.later) (length c.init + 1) i
    member_is i =
        ap (λ x. operand_step (out-ExprTree x) f i) c.form
        ∙ ap (λ y. operand_step y f i) (t.outs-Member c.head (c.init ++ c.last ∷ c.later))
        ∙ ap (λ n. member_at f c.head (c.init ++ c.last ∷ c.later) n i) c.pieces

    one_less : (n : ℕ) → (n + 1) - 1 ≡ n
    one_less n = omega arith

    head_is : operand f 0 ≡ Some (left_at f c.head (length c.init))
    head_is = member_is 0 ∙ ap (λ n. Some (left_at f c.head n)) (one_less (length c.init))

    abbrev Front : List Token
    Front = drop (total (map access_tree_count (take (length c.init) (c.init ++ c.last ∷ c.later))))
        (drop (tree_count c.head) f.tokens)

    front_is : drop (total (map access_tree_count (take (length c.init) (c.init ++ c.last ∷ c.later))))
        (drop (tree_count c.head) f.tokens) ≡ c.of_last ++ c.behind
    front_is =
        ap (λ xs. drop (total (map access_tree_count xs)) (drop (tree_count c.head) f.tokens))
        (take-append_seam c.init (c.last ∷ c.later))
        ∙ ap (drop (total (map access_tree_count c.init)))
        (past f.tokens c.of_head (c.of_init ++ (c.of_last ++ c.behind)) (tree_count c.head) c.written
        (any_count c.of_head c.head (primary_up levels c.of_head c.head c.head_derives)))
        ∙ past (c.of_init ++ (c.of_last ++ c.behind)) c.of_init (c.of_last ++ c.behind) _ refl
        (accesses_count c.of_init c.init c.init_derives)

    argument_is : operand f 1
        ≡ argument_at c.last (drop (total (map access_tree_count (take (length c.init) (c.init ++ c.last ∷ c.later))))
        (drop (tree_count c.head) f.tokens)) 0
    argument_is =
        member_is 1
        ∙ ap (λ n. access_at c.head (c.init ++ c.last ∷ c.later) f.tokens n 0) (one_less (length c.init))
        ∙ ap
        (option_and_then
        (λ x. argument_at x (drop (total (map access_tree_count (take (length c.init) (c.init ++ c.last ∷ c.later))))
        (drop (tree_count c.head) f.tokens)) 0))
        (get_middle c.init c.last c.later)

    -- the first argument
    first_next : (arguments : List ExprTree) (z : Expr) (dot word paren : Token) (us : List Token) (name : Token)
        → c.last ≡ access.Method name arguments → c.of_last ≡ dot ∷ word ∷ paren ∷ us → Starts us arguments
        → slice_get (map (core_of text) arguments) 0 ≡ Some z → Next text f 1 z
    first_next [] z dot word paren us name is written s h = absurd (none_some h)
    first_next (b ∷ more) z dot word paren us name is written s h =
        let heres : drop 3 (drop (total (map access_tree_count (take (length c.init) (c.init ++ c.last ∷ c.later))))
        (drop (tree_count c.head) f.tokens)) ≡ s.0 ++ (s.1 ++ c.behind)
        = ap (drop 3) (front_is ∙ ap (λ ts. ts ++ c.behind) written) ∙ ap (λ ts. ts ++ c.behind) s.2
        ∙ append_assoc s.0 s.1 c.behind in
        record {
          below = whole b (s.0 ++ (s.1 ++ c.behind));
          found = argument_is
              ∙ ap (λ x. argument_at x (drop (total (map access_tree_count (take (length c.init) (c.init ++ c.last ∷ c.later))))
              (drop (tree_count c.head) f.tokens)) 0) is
              ∙ ap (λ ts. Some (whole b ts)) heres;
          stands = whole_stands s.0 (s.1 ++ c.behind) refl refl s.3 (sym (some_same h));
          within = ends_later 3 _ _ f.tokens (sym heres)
              (ends_later (total (map access_tree_count (take (length c.init) (c.init ++ c.last ∷ c.later)))) _ _ f.tokens refl
              (ends_later (tree_count c.head) _ _ f.tokens refl (ends_here f.tokens f.tokens refl)));
        }

    argument_next : (x : Access (List ExprTree)) → c.last ≡ x → HasArgument c.of_last x
        → (name : Token) (arguments : List ExprTree) (z : Expr) → x ≡ access.Method name arguments
        → slice_get (map (core_of text) arguments) 0 ≡ Some z → Next text f 1 z
    argument_next x is h name arguments z same found =
        let has = subst (HasArgument c.of_last) same h in
        first_next arguments z has.0 has.1 has.2 has.3 name (is ∙ same) has.4 has.5 found

    pub member_next : (i : ℕ) (y : Expr) → slice_get (operands_of e) i ≡ Some y → Next text f i y
    member_next i y found =
        access_operands (Next text f) (fold (access_step text) (core_of text c.head) c.init)
        (before_next _ _ t.Member (access_step text) text (primary_up levels) (λ g z d. member_stands levels d) f e c head_is)
        text c.last (argument_next c.last refl (piece_has c.of_last c.last c.last_derives)) i y
        (ap (λ x. slice_get (operands_of x) i) (sym c.meant) ∙ found)
