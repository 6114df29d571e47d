-- The way down: at the end of a path the form stands for the node that the path leads to.
use Rattle.std.proofs.Common.{◌≡◌, ℕ, zero, suc, ◌⊎◌, ◌++◌, List, [], ◌∷◌, drop, Some, refl, sym, ap, ◌∙◌, subst, inl, inr, arith, append_assoc}
use Rattle.std.specs.List.{slice_get}
use Rattle.std.specs.Option.{option_and_then}
use Rattle.std.proofs.lemmas.Option.{slice_get_cases}
use Rattle.grammar_syntax.specs.declared.token.Token.{Token}
use Rattle.grammar_syntax.specs.declared.tree.ExprTree.{ExprTree, out-ExprTree, roll-ExprTree, roll-out-ExprTree}
use Rattle.grammar_syntax.specs.declared.tree.ExprTree.TheVariants as t
use Rattle.grammar_syntax.specs.declared.tree.ExprTree.TheOpen.{ExprTree-F as tree}
use Rattle.grammar_core.specs.declared.expr.Expr.{Expr}
use Rattle.grammar_parsing.specs.Expressions.{any_expr}
use Rattle.typing.specs.Places.{operands_of, follow, and_then}
use Rattle.policy_grammar.specs.grammar_desugaring.Core.{core_of}
use Rattle.policy_grammar.proofs.of_grammar_desugaring.Cores as cores
use Rattle.fault_places.specs.inner.Nodes as part
use Rattle.fault_places.specs.Forms.{Form, depth, peeled, inside, unwrapped, node_at}
use Rattle.fault_places.proofs.Peeling.{depth-other, depth-Parentheses, formed}
use Rattle.fault_places.proofs.Lists.{Ends, ends_here, ends_later, some_same, none_some}
use Rattle.fault_places.proofs.Chains.{chain_next}
use Rattle.fault_places.proofs.Members.{member_next}
use Rattle.fault_places.proofs.Standing.{Stands, whole_stands, member_stands, product_stands, sum_stands, and_stands, or_stands, test_stands, inner_stands, negated_stands, Next}
use Rattle.fault_places.proofs.Deriving.{Opened, Follows, Derived, Shown}
use Rattle.fault_places.proofs.FormSteps.{test_next, inner_next, negated_next}
use Rattle.fault_places.proofs.Productions.{any_shows, is_product, is_sum, is_and, is_or}

-- no parentheses stand round a tree
abbrev pub IsBare : ExprTree → Type 0
IsBare x = (a : ExprTree) → x ≡ t.Parentheses a → ⊥

open_or_bare : (y : tree ExprTree) → ((a : ExprTree) × (y ≡ tree.Parentheses a)) ⊎ ((a : ExprTree) → y ≡ tree.Parentheses a → ⊥)
open_or_bare (tree.Parentheses a) = inl (a, refl)
open_or_bare y = inr (λ a h. cc)

opened_or_bare : (x : ExprTree) → ((a : ExprTree) × (x ≡ t.Parentheses a)) ⊎ IsBare x
opened_or_bare x =
    elim (open_or_bare (out-ExprTree x)) [
      | inl s ↦ inl (s.0, sym (roll-out-ExprTree x) ∙ ap roll-ExprTree s.1 ∙ t.rolls-Parentheses s.0)
      | inr n ↦ inr (λ a h. n a (ap out-ExprTree h ∙ t.outs-Parentheses a))
    ]

-- what is shown of parentheses, and of a tree without them
opened_shown : (text : List ℕ) (ts : List Token) (x a : ExprTree) → x ≡ t.Parentheses a → Shown text ts x → Opened ts a
opened_shown text ts x a is s = subst (Derived text ts x) (ap out-ExprTree is ∙ t.outs-Parentheses a) s

bare_follows : (text : List ℕ) (ts : List Token) (x : ExprTree) (y : tree ExprTree)
    → ((a : ExprTree) → y ≡ tree.Parentheses a → ⊥) → Derived text ts x y → Follows text ts x
bare_follows text ts x (tree.Parentheses a) bare d = absurd (bare a refl)
bare_follows text ts x y bare d = d

bare_shown : (text : List ℕ) (ts : List Token) (x : ExprTree) → IsBare x → Shown text ts x → Follows text ts x
bare_shown text ts x bare s =
    bare_follows text ts x (out-ExprTree x)
    (λ a h. bare a (sym (roll-out-ExprTree x) ∙ ap roll-ExprTree h ∙ t.rolls-Parentheses a)) s

-- ## Without parentheses

-- what is left of a whole form
record Peeled (text : List ℕ) (x : ExprTree) (ts : List Token) (n : ℕ) : Type 0 where
  mine : List Token
  behind : List Token
  written : drop n ts ≡ mine ++ behind
  derives : any_expr mine (peeled n x)
  meant : core_of text (peeled n x) ≡ core_of text x
  bare : IsBare (peeled n x)

not_zero : (n : ℕ) → 0 ≡ suc n → ⊥
not_zero n e = omega arith

-- parentheses off x are parentheses off a
peeled_is : (n : ℕ) (x a : ExprTree) → x ≡ t.Parentheses a → peeled (suc n) x ≡ peeled n a
peeled_is n x a is =
    ap (λ y. peeled n (inside (out-ExprTree y) y)) is
    ∙ ap (λ y. peeled n (inside y (t.Parentheses a))) (t.outs-Parentheses a)

one_off : (text : List ℕ) (n : ℕ) (x a : ExprTree) (ts : List Token) → x ≡ t.Parentheses a
    → (us : List Token) → drop (suc n) ts ≡ drop n us → Peeled text a us n → Peeled text x ts (suc n)
one_off text n x a ts is us past p = record {
  mine = p.mine;
  behind = p.behind;
  written = past ∙ p.written;
  derives = subst (any_expr p.mine) (sym (peeled_is n x a is)) p.derives;
  meant = ap (core_of text) (peeled_is n x a is) ∙ p.meant ∙ sym (ap (core_of text) is ∙ cores.core-Parentheses text a);
  bare = subst IsBare (sym (peeled_is n x a is)) p.bare;
}

peel : (text : List ℕ) (n : ℕ) (x : ExprTree) (ts mine behind : List Token) → depth x ≡ n → ts ≡ mine ++ behind
    → any_expr mine x → Peeled text x ts n
peel text zero x ts mine behind deep written d = record {
  mine = mine;
  behind = behind;
  written = written;
  derives = d;
  meant = refl;
  bare = λ a is. not_zero (depth a) (sym deep ∙ ap depth is ∙ depth-Parentheses a);
}
peel text (suc n) x ts mine behind deep written d =
    elim (opened_or_bare x) [
      | inl s ↦
          let o = opened_shown text mine x s.0 s.1 (any_shows text mine x d) in
          let less : depth s.0 ≡ n = let e = sym (depth-Parentheses s.0) ∙ sym (ap depth s.1) ∙ deep in omega arith in
          let us = (o.inside ++ o.closing ∷ []) ++ behind in
          one_off text n x s.0 ts s.1 us
          (ap (drop (suc n)) (written ∙ ap (λ vs. vs ++ behind) o.written))
          (peel text n s.0 us o.inside (o.closing ∷ behind) less (append_assoc o.inside (o.closing ∷ []) behind) o.derives)
      | inr bare ↦ absurd (not_zero n (sym (depth-other x bare) ∙ deep))
    ]

-- ## Forms without parentheses

-- a form stands for e, without parentheses, in these tokens
pub record Bared (text : List ℕ) (f : Form) (ts : List Token) (e : Expr) : Type 0 where
  pub stands : Stands text f e
  pub bare : IsBare f.tree
  pub within : Ends f.tokens ts

-- one that has none stays as it is
kept_bare : (text : List ℕ) (f : Form) (e : Expr) → IsBare f.tree → Stands text f e → Bared text (unwrapped f) f.tokens e
kept_bare text f e bare s =
    let none = depth-other f.tree bare in
    let same : unwrapped f ≡ f = formed _ _ _ _ f.part (ap (λ n. peeled n f.tree) none) (ap (λ n. drop n f.tokens) none) in
    subst (λ g. Bared text g f.tokens e) (sym same)
    (record { stands = s; bare = bare; within = ends_here f.tokens f.tokens refl })

by_form : (x v : ExprTree) (y : tree ExprTree) → x ≡ v → out-ExprTree v ≡ y → ((a : ExprTree) → y ≡ tree.Parentheses a → ⊥)
    → IsBare x
by_form x v y is outs other a h = other a (sym outs ∙ sym (ap out-ExprTree is) ∙ ap out-ExprTree h ∙ t.outs-Parentheses a)

pub unwrap : (text : List ℕ) (f : Form) (e : Expr) → Stands text f e → Bared text (unwrapped f) f.tokens e
unwrap text f e (whole_stands mine behind is written d meant) =
    let p = peel text (depth f.tree) f.tree f.tokens mine behind refl written d in record {
      stands = whole_stands p.mine p.behind is p.written p.derives (meant ∙ sym p.meant);
      bare = p.bare;
      within = ends_later (depth f.tree) f.tokens _ f.tokens refl (ends_here f.tokens f.tokens refl);
    }
unwrap text f e (member_stands levels c) =
    kept_bare text f e (by_form _ _ _ c.form (t.outs-Member _ _) (λ a h. cc)) (member_stands levels c)
unwrap text f e (product_stands levels c) =
    kept_bare text f e (by_form _ _ _ c.form (t.outs-Product _ _) (λ a h. cc)) (product_stands levels c)
unwrap text f e (sum_stands levels c) =
    kept_bare text f e (by_form _ _ _ c.form (t.outs-Sum _ _) (λ a h. cc)) (sum_stands levels c)
unwrap text f e (and_stands levels c) =
    kept_bare text f e (by_form _ _ _ c.form (t.outs-And _ _) (λ a h. cc)) (and_stands levels c)
unwrap text f e (or_stands levels c) =
    kept_bare text f e (by_form _ _ _ c.form (t.outs-Or _ _) (λ a h. cc)) (or_stands levels c)
unwrap text f e (test_stands levels w is meant) =
    kept_bare text f e (by_form _ _ _ w.form (t.outs-IsIn _ _ _) (λ a h. cc)) (test_stands levels w is meant)
unwrap text f e (inner_stands levels w is meant) =
    kept_bare text f e (by_form _ _ _ w.form (t.outs-IsIn _ _ _) (λ a h. cc)) (inner_stands levels w is meant)
unwrap text f e (negated_stands levels w is meant) =
    kept_bare text f e (by_form _ _ _ w.form (t.outs-Compare _ _ _) (λ a h. cc)) (negated_stands levels w is meant)

-- ## One step

whole_form : (f : Form) (mine behind : List Token) → f.part ≡ part.Whole → f.tokens ≡ mine ++ behind
    → f ≡ record { tree = f.tree; part = part.Whole; tokens = mine ++ behind }
whole_form f mine behind is written =
    ap (λ p. record { tree = f.tree; part = p; tokens = f.tokens }) is
    ∙ ap (λ ts. record { tree = f.tree; part = part.Whole; tokens = ts }) written

pub step : (text : List ℕ) (f : Form) (e : Expr) → IsBare f.tree → Stands text f e → (i : ℕ) (y : Expr)
    → slice_get (operands_of e) i ≡ Some y → Next text f i y
step text f e bare (whole_stands mine behind is written d meant) i y found =
    subst (λ g. Next text g i y) (sym (whole_form f mine behind is written))
    (bare_shown text mine f.tree bare (any_shows text mine f.tree d) behind i y
    (ap (λ x. slice_get (operands_of x) i) (sym meant) ∙ found))
step text f e bare (member_stands levels c) i y found = member_next levels text f e c i y found
step text f e bare (product_stands levels c) i y found =
    chain_next _ _ _ _ text _ (is_product text levels) f e c i y found
step text f e bare (sum_stands levels c) i y found = chain_next _ _ _ _ text _ (is_sum text levels) f e c i y found
step text f e bare (and_stands levels c) i y found = chain_next _ _ _ _ text _ (is_and text levels) f e c i y found
step text f e bare (or_stands levels c) i y found = chain_next _ _ _ _ text _ (is_or text levels) f e c i y found
step text f e bare (test_stands levels w is meant) i y found = test_next text levels f e w is meant i y found
step text f e bare (inner_stands levels w is meant) i y found = inner_next text levels f e w is meant i y found
step text f e bare (negated_stands levels w is meant) i y found = negated_next text levels f e w is meant i y found

-- ## A path

-- the form at the end of a path
pub record Reached (text : List ℕ) (f : Form) (path : List ℕ) (e : Expr) : Type 0 where
  pub form : Form
  pub found : node_at f path ≡ Some form
  pub bared : Bared text form f.tokens e

pub further : (us vs ts : List Token) → Ends us vs → Ends vs ts → Ends us ts
further us vs ts h g = ends_later h.0 vs us ts h.1 g

pub walk : (text : List ℕ) (path : List ℕ) (f : Form) (e y : Expr) → IsBare f.tree → Stands text f e
    → follow path e ≡ Some y → Reached text f path y
walk text [] f e y bare s h = record {
  form = f;
  found = refl;
  bared = record {
    stands = subst (Stands text f) (some_same h) s;
    bare = bare;
    within = ends_here f.tokens f.tokens refl;
  };
}
walk text (i ∷ path) f e y bare s h =
    elim (slice_get_cases (operands_of e) i).1 [
      | inl c ↦
          let n = step text f e bare s i c.0 c.2 in
          let u = unwrap text n.below c.0 n.stands in
          let r = walk text path (unwrapped n.below) c.0 y u.bare u.stands
          (sym (ap (λ o. and_then o (λ z. follow path z)) c.2) ∙ h) in
          record {
            form = r.form;
            found = ap (option_and_then (λ g. node_at (unwrapped g) path)) n.found ∙ r.found;
            bared = record {
              stands = r.bared.stands;
              bare = r.bared.bare;
              within = further _ _ _ r.bared.within (further _ _ _ u.within n.within);
            };
          }
      | inr c ↦ absurd (none_some (sym (ap (λ o. and_then o (λ z. follow path z)) c.1) ∙ h))
    ]
