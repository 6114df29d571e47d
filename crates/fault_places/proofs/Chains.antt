-- The operands of a node of a chain.
use Rattle.std.proofs.Common.{◌≡◌, ℕ, suc, ◌+◌, ◌-◌, ◌==◌, ◌++◌, List, [], ◌∷◌, length, take, drop, map, if◌then◌else◌, Option, Some, refl, sym, ap, ◌∙◌, subst, inl, inr, arith, append_assoc, length-append}
use Rattle.std.specs.List.{slice_get, fold}
use Rattle.std.specs.Option.{option_map}
use Rattle.std.proofs.lemmas.List.Sums.{fold-append}
use Rattle.std.proofs.Math.Seq.{take-append_seam}
use Rattle.std.proofs.Math.Dec.{eqb-suc-zero}
use Rattle.grammar_syntax.specs.declared.token.Token.{Token}
use Rattle.grammar_syntax.specs.Lang.{Lang, many}
use Rattle.grammar_syntax.specs.declared.tree.ExprTree.{ExprTree, out-ExprTree}
use Rattle.grammar_core.specs.declared.expr.Expr.{Expr}
use Rattle.grammar_parsing.specs.Expressions.{any_expr}
use Rattle.fault_places.specs.TokenCounts.{tree_count, each_count}
use Rattle.typing.specs.Places.{operands_of}
use Rattle.policy_grammar.specs.grammar_desugaring.Core.{core_of}
use Rattle.fault_places.specs.inner.Nodes as part
use Rattle.fault_places.specs.Forms.{Form, kept, whole, left_at, chain_at, operand, operand_step}
use Rattle.fault_places.proofs.ExpressionCounts.{expr_fits}
use Rattle.fault_places.proofs.Lists.{ends_here, ends_later, get_middle, snoc, many_snoc, many_count, past, in_two}
use Rattle.fault_places.proofs.Standing.{Chained, Stands, whole_stands, Next}

-- an expression has as many tokens as its tree says
pub any_count : (ts : List Token) (x : ExprTree) → any_expr ts x → length ts ≡ tree_count x
any_count ts x d = expr_fits (suc d.0) ts x d.1

-- the operand of a further piece
abbrev pub right_at : {A : Type 0} → (A → ExprTree) → ExprTree → List A → List Token → ℕ → Option Form
right_at op a more ts i =
    option_map
    (λ b. whole (op b) (drop 1 (drop (each_count (map (λ p. tree_count (op p)) (take i more))) (drop (tree_count a) ts))))
    (slice_get more i)

-- a token, and an expression behind it
pub record Signed (ts : List Token) (x : ExprTree) : Type 0 where
  pub sign : Token
  pub rest : List Token
  pub whole : ts ≡ sign ∷ rest
  pub derives : any_expr rest x

-- What is known of a chain: `first` and what follows it are expressions, and the node of a piece has two operands, what is
-- before the piece and what `op` takes from it.
pub record IsChain {A : Type 0} (L : Lang ExprTree) (M : Lang A) (make : ExprTree → List A → ExprTree)
    (step : Expr → A → Expr) (text : List ℕ) (op : A → ExprTree) : Type 0 where
  pub head_up : (ts : List Token) (x : ExprTree) → L ts x → any_expr ts x
  pub piece_up : (ts : List Token) (x : A) → M ts x → Signed ts (op x)
  pub operands : (e : Expr) (x : A) → operands_of (step e x) ≡ e ∷ core_of text (op x) ∷ []
  pub goes : (a : ExprTree) (more : List A) (f : Form) (i : ℕ)
      → operand_step (out-ExprTree (make a more)) f i
      ≡ chain_at f a (right_at op a more f.tokens) (kept f.part (length more)) i
  pub stands : (f : Form) (e : Expr) → Chained L M make step text f e → Stands text f e

left_more : (f : Form) (a : ExprTree) (n m : ℕ) → n ≡ suc m
    → left_at f a n ≡ record { tree = f.tree; part = part.First n; tokens = f.tokens }
left_more f a n m e =
    ap (λ b. if b then whole a f.tokens else record { tree = f.tree; part = part.First n; tokens = f.tokens })
    (ap (λ k. k == 0) e ∙ eqb-suc-zero m)

-- What is before the last piece, where the node's first operand is found there.
module _ {A : Type 0} (L : Lang ExprTree) (M : Lang A) (make : ExprTree → List A → ExprTree) (step : Expr → A → Expr)
    (text : List ℕ) where
  pub before_next : ((ts : List Token) (x : ExprTree) → L ts x → any_expr ts x)
      → ((f : Form) (e : Expr) → Chained L M make step text f e → Stands text f e)
      → (f : Form) (e : Expr) (c : Chained L M make step text f e)
      → operand f 0 ≡ Some (left_at f c.head (length c.init))
      → Next text f 0 (fold step (core_of text c.head) c.init)
  before_next up stands f e c found =
      elim (snoc c.init) [
        | inl none ↦ record {
          below = whole c.head f.tokens;
          found = found ∙ ap (λ xs. Some (left_at f c.head (length xs))) none;
          stands = whole_stands c.of_head (c.of_init ++ (c.of_last ++ c.behind)) refl c.written
              (up c.of_head c.head c.head_derives) (ap (fold step (core_of text c.head)) none);
          within = ends_here f.tokens f.tokens refl;
        }
        | inr s ↦
            let n = length c.init in
            let more : n ≡ suc (length s.0) = ap length s.2 ∙ length-append s.0 (s.1 ∷ []) ∙ omega arith in
            let cut = many_snoc M c.of_init s.0 s.1 (subst (many M c.of_init) s.2 c.init_derives) in
            record {
              below = record { tree = f.tree; part = part.First n; tokens = f.tokens };
              found = found ∙ ap (λ g. Some g) (left_more f c.head n (length s.0) more);
              stands = stands (record { tree = f.tree; part = part.First n; tokens = f.tokens })
                  (fold step (core_of text c.head) c.init)
                  (record {
                    head = c.head;
                    init = s.0;
                    last = s.1;
                    later = c.last ∷ c.later;
                    of_head = c.of_head;
                    of_init = cut.front;
                    of_last = cut.back;
                    behind = c.of_last ++ c.behind;
                    form = c.form ∙ ap (λ xs. make c.head (xs ++ c.last ∷ c.later)) s.2
                        ∙ ap (make c.head) (append_assoc s.0 (s.1 ∷ []) (c.last ∷ c.later));
                    pieces = more ∙ omega arith;
                    written = c.written ∙ ap (λ us. c.of_head ++ (us ++ (c.of_last ++ c.behind))) cut.whole
                        ∙ ap (λ us. c.of_head ++ us) (append_assoc cut.front cut.back (c.of_last ++ c.behind));
                    head_derives = c.head_derives;
                    init_derives = cut.before;
                    last_derives = cut.here;
                    meant = ap (fold step (core_of text c.head)) s.2
                        ∙ fold-append step (core_of text c.head) s.0 (s.1 ∷ []);
                  });
              within = ends_here f.tokens f.tokens refl;
            }
      ]

  module _ (op : A → ExprTree) (K : IsChain L M make step text op) where
    -- how many tokens the pieces are
    pub piece_count : (ts : List Token) (x : A) → M ts x → length ts ≡ tree_count (op x) + 1
    piece_count ts x d =
        let s = K.piece_up ts x d in
        let n = any_count s.rest (op x) s.derives in
        ap length s.whole ∙ ap (λ k. suc k) n ∙ omega arith

    -- operand i, from the list of further pieces
    operand_is : (f : Form) (e : Expr) (c : Chained L M make step text f e) (i : ℕ)
        → operand f i
        ≡ chain_at f c.head (right_at op c.head (c.init ++ c.last ∷ c.later) f.tokens) (length c.init + 1) i
    operand_is f e c i =
        ap (λ x. operand_step (out-ExprTree x) f i) c.form
        ∙ K.goes c.head (c.init ++ c.last ∷ c.later) f i
        ∙ ap (λ n. chain_at f c.head (right_at op c.head (c.init ++ c.last ∷ c.later) f.tokens) n i) c.pieces

    one_less : (n : ℕ) → (n + 1) - 1 ≡ n
    one_less n = omega arith

    left_is : (f : Form) (e : Expr) (c : Chained L M make step text f e)
        → operand f 0 ≡ Some (left_at f c.head (length c.init))
    left_is f e c = operand_is f e c 0 ∙ ap (λ n. Some (left_at f c.head n)) (one_less (length c.init))

    -- where the last piece stands
    last_tokens : (f : Form) (e : Expr) (c : Chained L M make step text f e)
        → drop (each_count (map (λ p. tree_count (op p)) (take (length c.init) (c.init ++ c.last ∷ c.later))))
        (drop (tree_count c.head) f.tokens) ≡ c.of_last ++ c.behind
    last_tokens f e c =
        ap (λ xs. drop (each_count (map (λ p. tree_count (op p)) xs)) (drop (tree_count c.head) f.tokens))
        (take-append_seam c.init (c.last ∷ c.later))
        ∙ ap (drop (each_count (map (λ p. tree_count (op p)) c.init)))
        (past f.tokens c.of_head (c.of_init ++ (c.of_last ++ c.behind)) (tree_count c.head) c.written
        (any_count c.of_head c.head (K.head_up c.of_head c.head c.head_derives)))
        ∙ past (c.of_init ++ (c.of_last ++ c.behind)) c.of_init (c.of_last ++ c.behind) _ refl
        (many_count M (λ p. tree_count (op p)) piece_count c.of_init c.init c.init_derives)

    right_is : (f : Form) (e : Expr) (c : Chained L M make step text f e)
        → operand f 1
        ≡ Some (whole (op c.last) (drop 1 (drop (each_count (map (λ p. tree_count (op p)) (take (length c.init)
        (c.init ++ c.last ∷ c.later)))) (drop (tree_count c.head) f.tokens))))
    right_is f e c =
        operand_is f e c 1
        ∙ ap (right_at op c.head (c.init ++ c.last ∷ c.later) f.tokens) (one_less (length c.init))
        ∙ ap
        (option_map
        (λ b. whole (op b) (drop 1 (drop (each_count (map (λ p. tree_count (op p)) (take (length c.init)
        (c.init ++ c.last ∷ c.later)))) (drop (tree_count c.head) f.tokens)))))
        (get_middle c.init c.last c.later)

    right_next : (f : Form) (e : Expr) (c : Chained L M make step text f e) → Next text f 1 (core_of text (op c.last))
    right_next f e c =
        let s = K.piece_up c.of_last c.last c.last_derives in
        let heres = ap (drop 1) (last_tokens f e c ∙ ap (λ ts. ts ++ c.behind) s.whole) in
        record {
          below = whole (op c.last) (s.rest ++ c.behind);
          found = right_is f e c ∙ ap (λ ts. Some (whole (op c.last) ts)) heres;
          stands = whole_stands s.rest c.behind refl refl s.derives refl;
          within = ends_later 1 _ _ f.tokens (sym heres)
              (ends_later (each_count (map (λ p. tree_count (op p)) (take (length c.init) (c.init ++ c.last ∷ c.later)))) _ _ f.tokens refl
              (ends_later (tree_count c.head) _ _ f.tokens refl (ends_here f.tokens f.tokens refl)));
        }

    pub chain_next : (f : Form) (e : Expr) → Chained L M make step text f e → (i : ℕ) (y : Expr)
        → slice_get (operands_of e) i ≡ Some y → Next text f i y
    chain_next f e c i y found =
        in_two (Next text f) _ _ (before_next K.head_up K.stands f e c (left_is f e c)) (right_next f e c) i y
        (ap (λ xs. slice_get xs i) (sym (ap operands_of c.meant ∙ K.operands _ c.last)) ∙ found)
