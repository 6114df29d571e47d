-- The own tokens of a form that stands for a node: they derive the least expression that the node is written with.
use Rattle.std.proofs.Common.{◌≡◌, ℕ, ◌+◌, ◌-◌, ◌++◌, List, [], ◌∷◌, length, take, drop, map, Some, None, refl, sym, ap, ◌∙◌, inl, inr, arith, append_assoc, length-append}
use Rattle.std.specs.List.{fold}
use Rattle.std.proofs.lemmas.List.{append-nil, drop-drop}
use Rattle.std.proofs.lemmas.List.Folds.{fold-map}
use Rattle.std.proofs.lemmas.List.Sums.{fold-append}
use Rattle.std.proofs.Math.Seq.{take-append_seam, take-append-add, take-length}
use Rattle.grammar_syntax.specs.declared.token.Token.{Token}
use Rattle.grammar_syntax.specs.Lang.{Lang, many}
use Rattle.grammar_syntax.specs.declared.tree.ExprTree.{ExprTree, out-ExprTree, roll-ExprTree, roll-out-ExprTree}
use Rattle.grammar_syntax.specs.declared.tree.ExprTree.TheVariants as t
use Rattle.grammar_syntax.specs.declared.tree.ExprTree.TheOpen.{ExprTree-F as tree}
use Rattle.grammar_core.specs.declared.expr.Expr.{Expr}
use Rattle.grammar_core.specs.declared.expr.Expr.TheVariants as core
use Rattle.grammar_core.specs.declared.operator.Unary.TheVariants.{Not}
use Rattle.grammar_core.specs.declared.operator.Binary.TheVariants.{In, Multiply}
use Rattle.grammar_parsing.specs.Expressions as g
use Rattle.grammar_parsing.specs.Expressions.{any_expr, joined}
use Rattle.fault_places.specs.TokenCounts.{tree_count, term_count, access_tree_count, path_count, each_count, total}
use Rattle.fault_places.proofs.Counts.{count-Member, count-Product, count-Sum, count-And, count-Or}
use Rattle.policy_grammar.specs.grammar_desugaring.Core.{core_of, accessed, added, in_access, in_term}
use Rattle.policy_grammar.proofs.of_grammar_desugaring.Cores as cores
use Rattle.fault_places.specs.inner.Nodes as part
use Rattle.fault_places.specs.Forms.{Form, kept, up_to, own_tokens, tokens_after_step, tokens_after_test}
use Rattle.fault_places.proofs.LanguageCounts.{path_fits}
use Rattle.fault_places.specs.NodeTokens.{IsWritingOf, itself, negated, tested}
use Rattle.fault_places.proofs.Lifting.{relation_up, sum_up, product_up, unary_up, member_up, primary_up, and_up, or_up}
use Rattle.fault_places.proofs.Lists.{many_more, many_count, past}
use Rattle.fault_places.proofs.Chains.{any_count, piece_count}
use Rattle.fault_places.proofs.Members.{accesses_count}
use Rattle.fault_places.proofs.FormSteps.{inner_is}
use Rattle.fault_places.proofs.Productions.{is_product, is_sum, is_and, is_or}
use Rattle.fault_places.proofs.Standing.{Chained, Stands, whole_stands, member_stands, product_stands, sum_stands, and_stands, or_stands, test_stands, inner_stands, negated_stands, Tested, Compared, access_step, factor_step, term_step, and_step, or_step}

-- what the own tokens are, and what they derive
pub record Owned (text : List ℕ) (f : Form) (e : Expr) : Type 0 where
  pub mine : List Token
  pub behind : List Token
  pub written : f.tokens ≡ mine ++ behind
  pub own : own_tokens f ≡ mine
  pub tree : ExprTree
  pub derives : any_expr mine tree
  pub meant : IsWritingOf text tree e

front_length : (mine behind : List Token) → length (mine ++ behind) - length behind ≡ length mine
front_length mine behind = let l = length-append mine behind in omega arith

pub up_to_is : (ts mine behind : List Token) → ts ≡ mine ++ behind → up_to ts behind ≡ mine
up_to_is ts mine behind e =
    ap (λ us. up_to us behind) e ∙ ap (λ n. take n (mine ++ behind)) (front_length mine behind)
    ∙ take-append_seam mine behind

own_is : (f : Form) (mine behind : List Token) → f.tokens ≡ mine ++ behind
    → tokens_after_step (out-ExprTree f.tree) f ≡ behind → own_tokens f ≡ mine
own_is f mine behind written e = ap (up_to f.tokens) e ∙ up_to_is f.tokens mine behind written

-- ## Whole forms

two_drops : (m n : ℕ) (ts : List Token) (k : ℕ) → k ≡ m + n → drop n (drop m ts) ≡ drop k ts
two_drops m n ts k e = drop-drop n m ts ∙ ap (λ i. drop i ts) (sym e)

whole_behind : (x : ExprTree) (y : tree ExprTree) → roll-ExprTree y ≡ x → (ts : List Token)
    → tokens_after_step y (record { tree = x; part = part.Whole; tokens = ts }) ≡ drop (tree_count x) ts
whole_behind x (tree.Member a more) e ts =
    ap (λ xs. drop (total (map access_tree_count xs)) (drop (tree_count a) ts)) (take-length more)
    ∙ two_drops (tree_count a) _ ts (tree_count x)
    (ap tree_count (sym e ∙ t.rolls-Member a more) ∙ count-Member a more)
whole_behind x (tree.Product a more) e ts =
    ap (λ xs. drop (each_count (map tree_count xs)) (drop (tree_count a) ts)) (take-length more)
    ∙ two_drops (tree_count a) _ ts (tree_count x)
    (ap tree_count (sym e ∙ t.rolls-Product a more) ∙ count-Product a more)
whole_behind x (tree.Sum a more) e ts =
    ap (λ xs. drop (each_count (map term_count xs)) (drop (tree_count a) ts)) (take-length more)
    ∙ two_drops (tree_count a) _ ts (tree_count x)
    (ap tree_count (sym e ∙ t.rolls-Sum a more) ∙ count-Sum a more)
whole_behind x (tree.And a more) e ts =
    ap (λ xs. drop (each_count (map tree_count xs)) (drop (tree_count a) ts)) (take-length more)
    ∙ two_drops (tree_count a) _ ts (tree_count x)
    (ap tree_count (sym e ∙ t.rolls-And a more) ∙ count-And a more)
whole_behind x (tree.Or a more) e ts =
    ap (λ xs. drop (each_count (map tree_count xs)) (drop (tree_count a) ts)) (take-length more)
    ∙ two_drops (tree_count a) _ ts (tree_count x)
    (ap tree_count (sym e ∙ t.rolls-Or a more) ∙ count-Or a more)
whole_behind x y e ts = refl

whole_owned : (text : List ℕ) (f : Form) (e : Expr) (mine behind : List Token) → f.part ≡ part.Whole
    → f.tokens ≡ mine ++ behind → any_expr mine f.tree → e ≡ core_of text f.tree → Owned text f e
whole_owned text f e mine behind is written d meant = record {
  mine = mine;
  behind = behind;
  written = written;
  own = own_is f mine behind written
      (ap (λ p. tokens_after_step (out-ExprTree f.tree) (record { tree = f.tree; part = p; tokens = f.tokens })) is
      ∙ whole_behind f.tree (out-ExprTree f.tree) (roll-out-ExprTree f.tree) f.tokens
      ∙ past f.tokens mine behind (tree_count f.tree) written (any_count mine f.tree d));
  tree = f.tree;
  derives = d;
  meant = itself meant;
}

-- ## Chains

module _ {A : Type 0} (L : Lang ExprTree) (M : Lang A) (make : ExprTree → List A → ExprTree) (step : Expr → A → Expr)
    (text : List ℕ) (count : List A → ℕ)
    (core : (a : ExprTree) (more : List A) → core_of text (make a more) ≡ fold step (core_of text a) more)
    (behind_is : (a : ExprTree) (more : List A) (f : Form) → tokens_after_step (out-ExprTree (make a more)) f
    ≡ drop (count (take (kept f.part (length more)) more)) (drop (tree_count a) f.tokens))
    (counted : (ts : List Token) (xs : List A) → many M ts xs → length ts ≡ count xs)
    (head_up : (ts : List Token) (x : ExprTree) → L ts x → any_expr ts x)
    (up : (ts : List Token) (x : ExprTree) → g.chain L M make ts x → any_expr ts x) where
  joined_is : (a : ExprTree) (init : List A) (last : A) → make a (init ++ last ∷ []) ≡ joined make a (init ++ last ∷ [])
  joined_is a [] last = refl
  joined_is a (x ∷ init) last = refl

  front_of : (init : List A) (last : A) (later : List A) (n : ℕ) → n ≡ length init + 1
      → take n (init ++ last ∷ later) ≡ init ++ last ∷ []
  front_of init last later n e =
      ap (λ k. take k (init ++ last ∷ later)) e ∙ take-append-add init (last ∷ later) 1

  chain_owned : (f : Form) (e : Expr) → Chained L M make step text f e → Owned text f e
  chain_owned f e c =
      let pieces = many_more M c.of_init c.of_last c.init c.last c.init_derives c.last_derives in
      let mine = c.of_head ++ (c.of_init ++ c.of_last) in
      let more = c.init ++ c.last ∷ c.later in
      let written : f.tokens ≡ mine ++ c.behind
      = c.written ∙ ap (λ us. c.of_head ++ us) (sym (append_assoc c.of_init c.of_last c.behind))
      ∙ sym (append_assoc c.of_head (c.of_init ++ c.of_last) c.behind) in
      record {
        mine = mine;
        behind = c.behind;
        written = written;
        own = own_is f mine c.behind written
            (ap (λ x. tokens_after_step (out-ExprTree x) f) c.form ∙ behind_is c.head more f
            ∙ ap (λ xs. drop (count xs) (drop (tree_count c.head) f.tokens))
            (front_of c.init c.last c.later (kept f.part (length more)) c.pieces)
            ∙ ap (drop (count (c.init ++ c.last ∷ [])))
            (past f.tokens c.of_head ((c.of_init ++ c.of_last) ++ c.behind) (tree_count c.head)
            (written ∙ append_assoc c.of_head (c.of_init ++ c.of_last) c.behind)
            (any_count c.of_head c.head (head_up c.of_head c.head c.head_derives)))
            ∙ past _ (c.of_init ++ c.of_last) c.behind (count (c.init ++ c.last ∷ [])) refl
            (counted (c.of_init ++ c.of_last) (c.init ++ c.last ∷ []) pieces));
        tree = make c.head (c.init ++ c.last ∷ []);
        derives = up mine (make c.head (c.init ++ c.last ∷ [])) (record {
          front = c.of_head;
          back = c.of_init ++ c.of_last;
          value = c.head;
          whole = refl;
          first = c.head_derives;
          second = record {
            front = c.of_init ++ c.of_last;
            back = [];
            value = c.init ++ c.last ∷ [];
            whole = sym (append-nil (c.of_init ++ c.of_last));
            first = pieces;
            second = (refl, joined_is c.head c.init c.last);
          };
        });
        meant = itself
            (c.meant ∙ sym (fold-append step (core_of text c.head) c.init (c.last ∷ []))
            ∙ sym (core c.head (c.init ++ c.last ∷ [])));
      }

-- ## Tests and comparisons

module _ (text : List ℕ) (levels : ℕ) where
  is_derives : (f : Form) (w : Tested levels f)
      → any_expr (w.of_head ++ w.is_token ∷ w.of_name) (t.Is w.head w.name)
  is_derives f w =
      relation_up levels _ _ (record {
        front = w.of_head;
        back = w.is_token ∷ w.of_name;
        value = w.head;
        whole = refl;
        first = w.head_derives;
        second = inr (inr (inr (inl (record {
          front = w.is_token ∷ [];
          back = w.of_name;
          value = w.is_token;
          whole = refl;
          first = w.is_is;
          second = record {
            front = w.of_name;
            back = [];
            value = w.name;
            whole = sym (append-nil w.of_name);
            first = w.name_derives;
            second = record { front = []; back = []; value = None; whole = refl; first = refl; second = (refl, refl) };
          };
        }))));
      })

  test_owned : (f : Form) (e : Expr) (w : Tested levels f) → f.part ≡ part.Test
      → e ≡ core_of text (t.Is w.head w.name) → Owned text f e
  test_owned f e w is meant =
      let mine = w.of_head ++ w.is_token ∷ w.of_name in
      let behind = w.in_token ∷ (w.of_tail ++ w.behind) in
      let written : f.tokens ≡ mine ++ behind
      = w.written ∙ sym (append_assoc w.of_head (w.is_token ∷ w.of_name) behind) in
      record {
        mine = mine;
        behind = behind;
        written = written;
        own = own_is f mine behind written
            (ap (λ x. tokens_after_step (out-ExprTree x) f) w.form
            ∙ ap (λ y. tokens_after_step y f) (t.outs-IsIn w.head w.name w.tail)
            ∙ ap (λ p. tokens_after_test p f w.head w.name w.tail) is
            ∙ ap (λ ts. drop (path_count w.name) (drop 1 ts))
            (past f.tokens w.of_head (w.is_token ∷ (w.of_name ++ behind)) (tree_count w.head) w.written
            (any_count w.of_head w.head (sum_up levels w.of_head w.head w.head_derives)))
            ∙ past _ w.of_name behind (path_count w.name) refl (path_fits w.of_name w.name w.name_derives));
        tree = t.Is w.head w.name;
        derives = is_derives f w;
        meant = itself meant;
      }

  is_in_derives : (f : Form) (w : Tested levels f)
      → any_expr (w.of_head ++ w.is_token ∷ (w.of_name ++ w.in_token ∷ w.of_tail)) (t.IsIn w.head w.name w.tail)
  is_in_derives f w =
      relation_up levels _ _ (record {
        front = w.of_head;
        back = w.is_token ∷ (w.of_name ++ w.in_token ∷ w.of_tail);
        value = w.head;
        whole = refl;
        first = w.head_derives;
        second = inr (inr (inr (inl (record {
          front = w.is_token ∷ [];
          back = w.of_name ++ w.in_token ∷ w.of_tail;
          value = w.is_token;
          whole = refl;
          first = w.is_is;
          second = record {
            front = w.of_name;
            back = w.in_token ∷ w.of_tail;
            value = w.name;
            whole = refl;
            first = w.name_derives;
            second = record {
              front = w.in_token ∷ w.of_tail;
              back = [];
              value = Some w.tail;
              whole = sym (append-nil (w.in_token ∷ w.of_tail));
              first = record {
                front = w.in_token ∷ [];
                back = w.of_tail;
                value = w.in_token;
                whole = refl;
                first = w.in_is;
                second = w.tail_derives;
              };
              second = (refl, refl);
            };
          };
        }))));
      })

  -- a form of which an inner node is meant
  inner_owned : (f : Form) (e : Expr) (x : ExprTree) (mine behind : List Token) → f.tree ≡ x
      → f.tokens ≡ mine ++ behind → any_expr mine x → tokens_after_step (out-ExprTree f.tree) f ≡ drop (tree_count f.tree) f.tokens
      → IsWritingOf text x e → Owned text f e
  inner_owned f e x mine behind is written d step meant = record {
    mine = mine;
    behind = behind;
    written = written;
    own = own_is f mine behind written
        (step ∙ past f.tokens mine behind (tree_count f.tree) written (any_count mine x d ∙ ap tree_count (sym is)));
    tree = x;
    derives = d;
    meant = meant;
  }

  in_owned : (f : Form) (e : Expr) (w : Tested levels f) → f.part ≡ part.Inner
      → e ≡ core.Binary In (core_of text w.head) (core_of text w.tail) → Owned text f e
  in_owned f e w is meant =
      let mine = w.of_head ++ w.is_token ∷ (w.of_name ++ w.in_token ∷ w.of_tail) in
      inner_owned f e (t.IsIn w.head w.name w.tail) mine w.behind w.form
      (w.written
      ∙ ap (λ us. w.of_head ++ w.is_token ∷ us) (sym (append_assoc w.of_name (w.in_token ∷ w.of_tail) w.behind))
      ∙ sym (append_assoc w.of_head (w.is_token ∷ (w.of_name ++ w.in_token ∷ w.of_tail)) w.behind))
      (is_in_derives f w)
      (ap (λ x. tokens_after_step (out-ExprTree x) f) w.form
      ∙ ap (λ y. tokens_after_step y f) (t.outs-IsIn w.head w.name w.tail)
      ∙ ap (λ p. tokens_after_test p f w.head w.name w.tail) is)
      (tested w.head w.name w.tail _ refl
      (cores.core-IsIn text w.head w.name w.tail ∙ ap (core.And _) (sym meant)))

  compare_derives : (f : Form) (w : Compared levels f)
      → any_expr (w.of_left ++ w.token ∷ w.of_right) (t.Compare w.left w.operator w.right)
  compare_derives f w =
      relation_up levels _ _ (record {
        front = w.of_left;
        back = w.token ∷ w.of_right;
        value = w.left;
        whole = refl;
        first = w.left_derives;
        second = inl (record {
          front = w.token ∷ [];
          back = w.of_right;
          value = w.operator;
          whole = refl;
          first = w.token_is;
          second = record {
            front = w.of_right;
            back = [];
            value = w.right;
            whole = sym (append-nil w.of_right);
            first = w.right_derives;
            second = (refl, refl);
          };
        });
      })

  negated_owned : (f : Form) (e : Expr) (w : Compared levels f) → f.part ≡ part.Inner
      → core_of text (t.Compare w.left w.operator w.right) ≡ core.Unary Not e → Owned text f e
  negated_owned f e w is meant =
      inner_owned f e (t.Compare w.left w.operator w.right) (w.of_left ++ w.token ∷ w.of_right) w.behind w.form
      (w.written ∙ sym (append_assoc w.of_left (w.token ∷ w.of_right) w.behind)) (compare_derives f w)
      (ap (λ x. tokens_after_step (out-ExprTree x) f) w.form
      ∙ ap (λ y. tokens_after_step y f) (t.outs-Compare w.left w.operator w.right))
      (negated w.left w.operator w.right refl meant)

pub owned : (text : List ℕ) (f : Form) (e : Expr) → Stands text f e → Owned text f e
owned text f e (whole_stands mine behind is written d meant) = whole_owned text f e mine behind is written d meant
owned text f e (member_stands levels c) =
    chain_owned _ _ t.Member (access_step text) text (λ xs. total (map access_tree_count xs))
    (λ a more. cores.core-Member text a more ∙ fold-map (accessed text) (in_access (core_of text)) (core_of text a) more)
    (λ a more g. ap (λ y. tokens_after_step y g) (t.outs-Member a more)) (accesses_count levels) (primary_up levels)
    (member_up levels) f e c
owned text f e (product_stands levels c) =
    chain_owned _ _ t.Product (factor_step text) text (λ xs. each_count (map tree_count xs))
    (λ a more. cores.core-Product text a more ∙ fold-map (core.Binary Multiply) (core_of text) (core_of text a) more)
    (λ a more g. ap (λ y. tokens_after_step y g) (t.outs-Product a more))
    (many_count _ tree_count (piece_count _ _ _ _ text (λ x. x) (is_product text levels))) (unary_up levels)
    (product_up levels) f e c
owned text f e (sum_stands levels c) =
    chain_owned _ _ t.Sum (term_step text) text (λ xs. each_count (map term_count xs))
    (λ a more. cores.core-Sum text a more ∙ fold-map added (in_term (core_of text)) (core_of text a) more)
    (λ a more g. ap (λ y. tokens_after_step y g) (t.outs-Sum a more))
    (many_count _ term_count (piece_count _ _ _ _ text (λ x. x.operand) (is_sum text levels))) (product_up levels)
    (sum_up levels) f e c
owned text f e (and_stands levels c) =
    chain_owned _ _ t.And (and_step text) text (λ xs. each_count (map tree_count xs))
    (λ a more. cores.core-And text a more ∙ fold-map core.And (core_of text) (core_of text a) more)
    (λ a more g. ap (λ y. tokens_after_step y g) (t.outs-And a more))
    (many_count _ tree_count (piece_count _ _ _ _ text (λ x. x) (is_and text levels))) (relation_up levels)
    (and_up levels) f e c
owned text f e (or_stands levels c) =
    chain_owned _ _ t.Or (or_step text) text (λ xs. each_count (map tree_count xs))
    (λ a more. cores.core-Or text a more ∙ fold-map core.Or (core_of text) (core_of text a) more)
    (λ a more g. ap (λ y. tokens_after_step y g) (t.outs-Or a more))
    (many_count _ tree_count (piece_count _ _ _ _ text (λ x. x) (is_or text levels))) (and_up levels)
    (or_up levels) f e c
owned text f e (test_stands levels w is meant) =
    test_owned text levels f e w is (meant ∙ sym (cores.core-Is text w.head w.name))
owned text f e (inner_stands levels w is meant) = in_owned text levels f e w is meant
owned text f e (negated_stands levels w is meant) =
    negated_owned text levels f e w is
    (cores.core-Compare text w.left w.operator w.right ∙ inner_is w.operator _ _ w.negates ∙ ap (core.Unary Not) (sym meant))
