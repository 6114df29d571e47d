-- The own name of the core node that a form stands for is in the form's tokens.
use Rattle.std.proofs.Common.{◌≡◌, ℕ, ◌++◌, List, ◌∷◌, drop, Some, None, refl, sym, ap, ◌∙◌, subst, append_assoc}
use Rattle.std.specs.List.{fold}
use Rattle.std.specs.Option.{option_and_then}
use Rattle.grammar_syntax.specs.declared.token.Token.{Token}
use Rattle.grammar_syntax.specs.declared.name_trees.PathTree.{PathTree}
use Rattle.grammar_syntax.specs.declared.name_trees.UidTree.{UidTree}
use Rattle.grammar_syntax.specs.Grammar as names
use Rattle.grammar_syntax.specs.declared.tree.Comparison.{Comparison}
use Rattle.grammar_syntax.specs.declared.tree.Comparison.TheVariants as is
use Rattle.grammar_syntax.specs.declared.tree.ExprTree.{ExprTree, out-ExprTree}
use Rattle.grammar_syntax.specs.declared.tree.ExprTree.TheVariants as t
use Rattle.grammar_core.specs.declared.expr.Expr.{Expr}
use Rattle.grammar_core.specs.declared.expr.Expr.TheViews.{out-Expr}
use Rattle.grammar_core.specs.declared.expr.Expr.TheVariants as core
use Rattle.grammar_parsing.specs.Expressions.{any_expr}
use Rattle.fault_places.specs.TokenCounts.{tree_count, path_count, uid_count}
use Rattle.policy_grammar.specs.grammar_desugaring.Core.{core_of}
use Rattle.typing.specs.Places.{follow}
use Rattle.fault_places.specs.Forms.{Form, whole, unwrapped, up_to}
use Rattle.fault_places.specs.Names.{own_name, name_step, name_in, tested, path_tokens, uid_tokens, in_test}
use Rattle.fault_places.proofs.LanguageCounts.{path_fits, uid_fits}
use Rattle.fault_places.specs.NameWritten.{OwnName, name_of, IsNameWriting, as_uid, as_path}
use Rattle.fault_places.proofs.Lifting.{sum_up}
use Rattle.fault_places.proofs.Lists.{Ends, ends_here, past, some_same, none_some}
use Rattle.fault_places.proofs.Standing.{Stands, whole_stands, member_stands, product_stands, sum_stands, and_stands, or_stands, test_stands, inner_stands, negated_stands, inner_of}
use Rattle.fault_places.proofs.FormSteps.{behind_is, behind_ends}
use Rattle.fault_places.proofs.Walking.{IsBare, unwrap, walk, further}
use Rattle.fault_places.proofs.Owning.{up_to_is}
use Rattle.fault_places.proofs.SomeTokens.{Some_in}
use Rattle.fault_places.proofs.Naming.{IsNamed, uid_named, type_named, inside_named, any_named, no_access}

-- a name begins with a token
path_has : (ts : List Token) (p : PathTree) → names.path ts p → Some_in ts
path_has ts p d = record {
  first = d.value;
  rest = d.back;
  whole = d.whole ∙ ap (λ us. us ++ d.back) d.first.0;
}

uid_has : (ts : List Token) (u : UidTree) → names.uid ts u → Some_in ts
uid_has ts u d =
    let s = path_has d.front d.value d.first in record {
      first = s.first;
      rest = s.rest ++ d.back;
      whole = d.whole ∙ ap (λ us. us ++ d.back) s.whole;
    }

pub name_has : (text : List ℕ) (ts : List Token) (n : OwnName) → IsNameWriting text ts n → Some_in ts
name_has text ts n (as_uid u d) = uid_has ts u d
name_has text ts n (as_path p d) = path_has ts p d

pub path_tokens-is : (ts us vs : List Token) (p : PathTree) → ts ≡ us ++ vs → names.path us p → path_tokens p ts ≡ us
path_tokens-is ts us vs p e d =
    ap (λ rest. up_to ts rest) (past ts us vs (path_count p) e (path_fits us p d)) ∙ up_to_is ts us vs e

pub uid_tokens-is : (ts us vs : List Token) (u : UidTree) → ts ≡ us ++ vs → names.uid us u → uid_tokens u ts ≡ us
uid_tokens-is ts us vs u e d =
    ap (λ rest. up_to ts rest) (past ts us vs (uid_count u) e (uid_fits us u d)) ∙ up_to_is ts us vs e

-- the tokens of a form's own name
pub record OwnsName (text : List ℕ) (f : Form) (n : OwnName) : Type 0 where
  pub mine : List Token
  pub behind : List Token
  pub within : Ends (mine ++ behind) f.tokens
  pub own : own_name f ≡ Some mine
  pub derives : IsNameWriting text mine n

whole_named : (text : List ℕ) (f : Form) (mine behind : List Token) (n : OwnName) → f.tokens ≡ mine ++ behind
    → IsBare f.tree → IsNamed text mine f.tree n → OwnsName text f n
whole_named text f mine behind n written bare (uid_named uid is d) = record {
  mine = mine;
  behind = behind;
  within = ends_here _ _ (sym written);
  own = ap (λ x. name_step (out-ExprTree x) f) is ∙ ap (λ y. name_step y f) (t.outs-Uid uid)
      ∙ ap (λ us. Some us) (uid_tokens-is f.tokens mine behind uid written d);
  derives = as_uid uid d;
}
whole_named text f mine behind n written bare (type_named a name us word ps is split da dp) =
    let all : f.tokens ≡ us ++ word ∷ (ps ++ behind)
    = written ∙ ap (λ ws. ws ++ behind) split ∙ append_assoc us (word ∷ ps) behind in
    let from : drop 1 (drop (tree_count a) f.tokens) ≡ ps ++ behind = behind_is f.tokens us (ps ++ behind) word a all da in
    record {
      mine = ps;
      behind = behind;
      within = further _ _ f.tokens (ends_here _ _ (sym from)) (behind_ends f.tokens (tree_count a));
      own = ap (λ x. name_step (out-ExprTree x) f) is ∙ ap (λ y. name_step y f) (t.outs-Is a name)
          ∙ ap (λ vs. Some vs) (path_tokens-is _ ps behind name from dp);
      derives = as_path name dp;
    }
whole_named text f mine behind n written bare (inside_named a is) = absurd (bare a is)

-- a node without a name
no_name : (e z : Expr) (n : OwnName) → e ≡ z → name_of (out-Expr z) ≡ None → name_of (out-Expr e) ≡ Some n → ⊥
no_name e z n is none h = none_some (sym none ∙ ap (λ y. name_of (out-Expr y)) (sym is) ∙ h)

inner_has_none : (operator : Comparison) (x y : Expr) → name_of (out-Expr (inner_of operator x y)) ≡ None
inner_has_none is.Less x y = ap name_of (core.outs-Binary _ x y)
inner_has_none is.LessOrEqual x y = ap name_of (core.outs-Binary _ x y)
inner_has_none is.Greater x y = ap name_of (core.outs-Binary _ x y)
inner_has_none is.GreaterOrEqual x y = ap name_of (core.outs-Binary _ x y)
inner_has_none is.Equal x y = ap name_of (core.outs-Binary _ x y)
inner_has_none is.NotEqual x y = ap name_of (core.outs-Binary _ x y)
inner_has_none is.In x y = ap name_of (core.outs-Binary _ x y)

pub owns_name : (text : List ℕ) (f : Form) (e : Expr) (n : OwnName) → IsBare f.tree → Stands text f e
    → name_of (out-Expr e) ≡ Some n → OwnsName text f n
owns_name text f e n bare (whole_stands mine behind is written d meant) h =
    whole_named text f mine behind n written bare
    (any_named text mine f.tree d n (ap (λ y. name_of (out-Expr y)) (sym meant) ∙ h))
owns_name text f e n bare (member_stands levels c) h =
    absurd (no_name e _ n c.meant (no_access text (fold _ _ c.init) c.last) h)
owns_name text f e n bare (product_stands levels c) h =
    absurd (no_name e _ n c.meant (ap name_of (core.outs-Binary _ _ _)) h)
owns_name text f e n bare (sum_stands levels c) h =
    absurd (no_name e _ n c.meant (ap name_of (core.outs-Binary _ _ _)) h)
owns_name text f e n bare (and_stands levels c) h = absurd (no_name e _ n c.meant (ap name_of (core.outs-And _ _)) h)
owns_name text f e n bare (or_stands levels c) h = absurd (no_name e _ n c.meant (ap name_of (core.outs-Or _ _)) h)
owns_name text f e n bare (test_stands levels w is meant) h =
    let from = behind_is f.tokens w.of_head (w.of_name ++ (w.in_token ∷ (w.of_tail ++ w.behind))) w.is_token w.head
    w.written (sum_up levels w.of_head w.head w.head_derives) in
    record {
      mine = w.of_name;
      behind = w.in_token ∷ (w.of_tail ++ w.behind);
      within = further _ _ f.tokens (ends_here _ _ (sym from)) (behind_ends f.tokens (tree_count w.head));
      own = ap (λ x. name_step (out-ExprTree x) f) w.form ∙ ap (λ y. name_step y f) (t.outs-IsIn w.head w.name w.tail)
          ∙ ap (λ p. in_test p (tested w.head w.name f.tokens)) is
          ∙ ap (λ vs. Some vs)
          (path_tokens-is _ w.of_name (w.in_token ∷ (w.of_tail ++ w.behind)) w.name from w.name_derives);
      derives = subst (IsNameWriting text w.of_name)
          (some_same
          (sym (ap name_of (core.outs-Unary _ _)) ∙ ap (λ y. name_of (out-Expr y)) (sym meant) ∙ h))
          (as_path w.name w.name_derives);
    }
owns_name text f e n bare (inner_stands levels w is meant) h =
    absurd (no_name e _ n meant (ap name_of (core.outs-Binary _ _ _)) h)
owns_name text f e n bare (negated_stands levels w is meant) h =
    absurd (no_name e _ n meant (inner_has_none w.operator _ _) h)

-- in an expression, at a path
pub record NamedIn (text : List ℕ) (x : ExprTree) (ts : List Token) (path : List ℕ) (n : OwnName) : Type 0 where
  pub mine : List Token
  pub behind : List Token
  pub within : Ends (mine ++ behind) ts
  pub found : name_in x ts path ≡ Some mine
  pub derives : IsNameWriting text mine n

pub named_in : (text : List ℕ) (x : ExprTree) (ts us behind : List Token) (path : List ℕ) (e : Expr) (n : OwnName)
    → ts ≡ us ++ behind → any_expr us x → follow path (core_of text x) ≡ Some e → name_of (out-Expr e) ≡ Some n
    → NamedIn text x ts path n
named_in text x ts us behind path e n is d h named =
    let f = whole x ts in
    let u = unwrap text f (core_of text x) (whole_stands us behind refl is d refl) in
    let r = walk text path (unwrapped f) (core_of text x) e u.bare u.stands h in
    let o = owns_name text r.form e n r.bared.bare r.bared.stands named in
    record {
      mine = o.mine;
      behind = o.behind;
      within = further _ r.form.tokens ts o.within (further r.form.tokens (unwrapped f).tokens ts r.bared.within u.within);
      found = ap (option_and_then own_name) r.found ∙ o.own;
      derives = o.derives;
    }
