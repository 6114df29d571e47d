-- Each core node of a policy's expression stands in the tokens of the policy.
use Rattle.std.proofs.Common.{◌≡◌, ◌⊎◌, ℕ, zero, suc, ◌+◌, ◌++◌, List, [], ◌∷◌, length, drop, take, map, Some, refl, sym, ap, ◌∙◌, subst, inl, inr, arith, append_assoc, length-append}
use Rattle.std.specs.List.{slice_get, AllByRecursion}
use Rattle.std.specs.Option.{option_map}
use Rattle.std.proofs.lemmas.List.{append-nil, take-append-drop, drop-drop}
use Rattle.std.proofs.Math.Seq.{drop-append_seam}
use Rattle.grammar_syntax.specs.declared.token.Token.{Token}
use Rattle.grammar_syntax.specs.declared.token.TokenKind.{TokenKind}
use Rattle.grammar_syntax.specs.declared.token.TokenKind.TheVariants as k
use Rattle.grammar_syntax.specs.Lang.{many}
use Rattle.grammar_syntax.specs.Lexing.{IsLexed}
use Rattle.grammar_syntax.specs.declared.tree.ExprTree.{ExprTree}
use Rattle.grammar_core.specs.declared.expr.Expr.{Expr}
use Rattle.grammar_core.specs.declared.expr.Expr.TheVariants as core
use Rattle.grammar_core.specs.declared.operator.Unary.TheVariants.{Not}
use Rattle.grammar_parsing.specs.declared.tree.Condition.{Condition}
use Rattle.grammar_parsing.specs.declared.tree.ConditionWord.{ConditionWord}
use Rattle.grammar_parsing.specs.declared.tree.ConditionWord.TheVariants.{When, Unless}
use Rattle.grammar_parsing.specs.declared.tree.PartTree.{PartTree}
use Rattle.grammar_parsing.specs.declared.tree.PolicyTree.{PolicyTree}
use Rattle.grammar_parsing.specs.Expressions.{any_expr, nesting_limit}
use Rattle.grammar_parsing.specs.Grammar as p
use Rattle.typing.specs.Places.{operands_of, operands_in, follow, and_then}
use Rattle.policy_grammar.specs.declared.policy.Policy.{Policy}
use Rattle.policy_grammar.specs.grammar_desugaring.Core.{core_of}
use Rattle.policy_grammar.specs.Conditions.{condition_of, joined, condition_expression}
use Rattle.policy_grammar.specs.CoreOf.{IsCoreOf}
use Rattle.policy_grammar.specs.PolicyExpression.{expression_of, truth, entity_part}
use Rattle.policy_grammar.specs.PolicyExpression.{action_part as scope_action}
use Rattle.grammar_core.specs.declared.leaf.Variable.TheVariants.{Resource}
use Rattle.fault_places.specs.Forms.{whole, unwrapped, own_tokens, up_to}
use Rattle.fault_places.specs.Places.{to, part_count, action_count, condition_count}
use Rattle.fault_places.specs.Places.{NodePlace, whole_policy, in_entity, in_action, in_expression}
use Rattle.fault_places.specs.Places.{at_conditions, by_word, unless_at, from_resource, from_action, from_effect, from_byte, place_at, written}
use Rattle.fault_places.specs.NodeTokens.{IsWritingOf, IsPlacedIn, of_expression, of_unless, of_principal, of_action, of_resource, of_policy, HasTokensIn}
use Rattle.fault_places.proofs.Lifting.{any_inner}
use Rattle.fault_places.proofs.Lists.{Ends, ends_here, ends_later, past, some_same, none_some, swapped}
use Rattle.fault_places.proofs.Chains.{any_count}
use Rattle.fault_places.proofs.Standing.{whole_stands}
use Rattle.fault_places.proofs.Walking.{unwrap, walk}
use Rattle.fault_places.proofs.Owning.{owned, up_to_is}
use Rattle.fault_places.proofs.SomeTokens.{Some_in, any_has}
use Rattle.fault_places.proofs.ScopeCounts.{part_fits, action_fits}
use Rattle.fault_places.proofs.Starting.{from_byte-is}

-- ## What is written at a place

-- What is written at a place is `first ∷ mine`, with which some end of the tokens ts begins. `Q mine behind` is what is
-- known of these tokens and of those behind them.
pub record At (ts : List Token) (place : NodePlace) (Q : List Token → List Token → Type 0) : Type 0 where
  pub mine : List Token
  pub behind : List Token
  pub some : Some_in mine
  pub within : Ends (mine ++ behind) ts
  pub found : written place ≡ Some mine
  pub known : Q mine behind

-- ## In expressions

-- what is known of a node in a condition
abbrev InExpression : List ℕ → Expr → List Token → List Token → Type 0
InExpression text e mine behind = (x : ExprTree) × any_expr mine x × IsWritingOf text x e

further : (us vs ts : List Token) → Ends us vs → Ends vs ts → Ends us ts
further us vs ts h g = ends_later h.0 vs us ts h.1 g

at_expression : (text : List ℕ) (x : ExprTree) (ts us behind : List Token) (path : List ℕ) (e : Expr)
    → ts ≡ us ++ behind → any_expr us x → follow path (core_of text x) ≡ Some e
    → At ts (in_expression x ts path) (InExpression text e)
at_expression text x ts us behind path e is d h =
    let f = whole x ts in
    let u = unwrap text f (core_of text x) (whole_stands us behind refl is d refl) in
    let r = walk text path (unwrapped f) (core_of text x) e u.bare u.stands h in
    let o = owned text r.form e r.bared.stands in
    record {
      mine = o.mine;
      behind = o.behind;
      some = any_has o.mine o.tree o.derives;
      within = further (o.mine ++ o.behind) r.form.tokens ts (ends_here _ _ (sym o.written))
          (further r.form.tokens (unwrapped f).tokens ts r.bared.within u.within);
      found = ap (option_map own_tokens) r.found ∙ ap (λ us. Some us) o.own;
      known = (o.tree, o.derives, o.meant);
    }

-- ## In conditions

-- a condition's tokens: its word, a brace, its expression, a brace
pub record Braced (ts : List Token) (c : Condition) : Type 0 where
  pub word : Token
  pub opening : Token
  pub inside : List Token
  pub closing : Token
  pub whole : ts ≡ word ∷ opening ∷ (inside ++ closing ∷ [])
  pub derives : any_expr inside c.expression

pub braced : (ts : List Token) (c : Condition) → p.condition nesting_limit ts c → Braced ts c
braced ts c d =
    let o = d.second in
    let x = o.second in
    let z = x.second in
    let e = z.second in
    record {
      word = d.first.0;
      opening = o.value;
      inside = x.front;
      closing = z.value;
      whole = d.whole ∙ ap (λ us. us ++ d.back) d.first.1
          ∙ ap (λ us. d.first.0 ∷ us)
          (o.whole ∙ ap (λ us. us ++ o.back) o.first.0
          ∙ ap (λ us. o.value ∷ us)
          (x.whole ∙ ap (λ us. x.front ++ us) (z.whole ∙ ap (λ us. us ++ z.back) z.first.0
          ∙ ap (λ us. z.value ∷ us) e.0)));
      derives = subst (λ y. any_expr x.front y) (sym (ap (λ y. y.expression) e.1))
          (any_inner nesting_limit x.front x.value x.first);
    }

pub condition_length : (ts : List Token) (c : Condition) → p.condition nesting_limit ts c → length ts ≡ condition_count c
condition_length ts c d =
    let b = braced ts c d in
    let n = any_count b.inside c.expression b.derives in
    let l = length-append b.inside (b.closing ∷ []) in
    ap length b.whole ∙ omega arith

-- what is known of a node in conditions
pub data InConditions (text : List ℕ) (e : Expr) (mine behind : List Token) : Type 0 where
  as_expression : InExpression text e mine behind → InConditions text e mine behind
  as_unless : (c : Condition) → p.condition nesting_limit mine c → c.word ≡ Unless → e ≡ condition_of text c
      → InConditions text e mine behind

-- the only operand
pub follow_one : (a x : Expr) (i : ℕ) (path : List ℕ) (e : Expr) → operands_of x ≡ a ∷ []
    → follow (i ∷ path) x ≡ Some e → (i ≡ 0) × (follow path a ≡ Some e)
follow_one a x zero path e outs h =
    (refl, sym (ap (λ ys. and_then (slice_get ys 0) (λ y. follow path y)) outs) ∙ h)
follow_one a x (suc i) path e outs h =
    absurd (none_some (sym (ap (λ ys. and_then (slice_get ys (suc i)) (λ y. follow path y)) outs) ∙ h))

-- operands of `&&`
pub follow_left : (a b : Expr) (path : List ℕ) (e : Expr) → follow (0 ∷ path) (core.And a b) ≡ Some e
    → follow path a ≡ Some e
follow_left a b path e h =
    sym (ap (λ ys. and_then (slice_get (operands_in ys) 0) (λ y. follow path y)) (core.outs-And a b)) ∙ h

pub follow_right : (a b : Expr) (path : List ℕ) (e : Expr) → follow (1 ∷ path) (core.And a b) ≡ Some e
    → follow path b ≡ Some e
follow_right a b path e h =
    sym (ap (λ ys. and_then (slice_get (operands_in ys) 1) (λ y. follow path y)) (core.outs-And a b)) ∙ h

pub follow_off : (a b : Expr) (i : ℕ) (path : List ℕ) (e : Expr) → follow (suc (suc i) ∷ path) (core.And a b) ≡ Some e → ⊥
follow_off a b i path e h =
    none_some
    (sym (ap (λ ys. and_then (slice_get (operands_in ys) (suc (suc i))) (λ y. follow path y)) (core.outs-And a b)) ∙ h)

-- `At` in other tokens, and with more that is known
more_known : (ts us : List Token) (place : NodePlace) (Q R : List Token → List Token → Type 0) → Ends us ts
    → ((mine behind : List Token) → Q mine behind → R mine behind) → At us place Q → At ts place R
more_known ts us place Q R ends know a = record {
  mine = a.mine;
  behind = a.behind;
  some = a.some;
  within = further (a.mine ++ a.behind) us ts a.within ends;
  found = a.found;
  known = know a.mine a.behind a.known;
}

pub inside_is : (ts us behind : List Token) (c : Condition) → ts ≡ us ++ behind → (b : Braced us c)
    → drop 2 ts ≡ b.inside ++ (b.closing ∷ behind)
inside_is ts us behind c is b =
    ap (drop 2) (is ∙ ap (λ vs. vs ++ behind) b.whole) ∙ append_assoc b.inside (b.closing ∷ []) behind

-- a node of what a condition asks
at_one : (text : List ℕ) (c : Condition) (ts us behind : List Token) (path : List ℕ) (e : Expr) (word : ConditionWord)
    → c.word ≡ word → ts ≡ us ++ behind → p.condition nesting_limit us c
    → follow path (condition_expression word (core_of text c.expression)) ≡ Some e
    → At ts (by_word word c ts path) (InConditions text e)
at_one text c ts us behind path e When is whole_is d h =
    let b = braced us c d in
    more_known ts (drop 2 ts) _ (InExpression text e) (InConditions text e) (2, refl)
    (λ mine vs known. as_expression known)
    (at_expression text c.expression (drop 2 ts) b.inside (b.closing ∷ behind) path e (inside_is ts us behind c whole_is b)
    b.derives h)
at_one text c ts us behind [] e Unless is whole_is d h = record {
  mine = us;
  behind = behind;
  some = let b = braced us c d in record { first = b.word; rest = b.opening ∷ (b.inside ++ b.closing ∷ []); whole = b.whole };
  within = (0, sym whole_is);
  found = ap (λ rest. Some (up_to ts rest)) (past ts us behind (condition_count c) whole_is (condition_length us c d))
      ∙ ap (λ vs. Some vs) (up_to_is ts us behind whole_is);
  known = as_unless c d is (sym (some_same h) ∙ sym (ap (λ w. condition_expression w (core_of text c.expression)) is));
}
at_one text c ts us behind (i ∷ path) e Unless is whole_is d h =
    let o = follow_one (core_of text c.expression) (core.Unary Not (core_of text c.expression)) i path e
    (ap operands_in (core.outs-Unary Not (core_of text c.expression))) h in
    let b = braced us c d in
    subst (λ j. At ts (unless_at (to j path) c ts) (InConditions text e)) (sym o.0)
    (more_known ts (drop 2 ts) _ (InExpression text e) (InConditions text e) (2, refl)
    (λ mine vs known. as_expression known)
    (at_expression text c.expression (drop 2 ts) b.inside (b.closing ∷ behind) path e (inside_is ts us behind c whole_is b)
    b.derives o.1))

-- a node that joins, or one that is written at a place
abbrev Joins : List Token → List ℕ → NodePlace → Type 0
Joins policy path place = (place ≡ whole_policy policy) × AllByRecursion (λ i. i ≡ 1) path

abbrev Found : List Token → List Token → List ℕ → NodePlace → (List Token → List Token → Type 0) → Type 0
Found policy ts path place Q = Joins policy path place ⊎ At ts place Q

pub no_operand : (i : ℕ) (path : List ℕ) (e : Expr) → follow (i ∷ path) truth ≡ Some e → ⊥
no_operand i path e h =
    none_some
    (sym (ap (λ ys. and_then (slice_get (operands_in ys) i) (λ y. follow path y)) (core.outs-Literal _)) ∙ h)

in_conditions : (text : List ℕ) (policy : List Token) (cs : List Condition) (ts us behind : List Token) (path : List ℕ)
    (e : Expr) → ts ≡ us ++ behind → many (p.condition nesting_limit) us cs
    → follow path (joined (map (condition_of text) cs)) ≡ Some e
    → Found policy ts path (at_conditions policy cs ts path) (InConditions text e)
in_conditions text policy [] ts us behind [] e is d h = inl (refl, tt)
in_conditions text policy [] ts us behind (i ∷ path) e is d h = absurd (no_operand i path e h)
in_conditions text policy (c ∷ []) ts us behind path e is d h =
    inr (at_one text c ts d.0 (d.1 ++ behind) path e c.word refl
    (is ∙ ap (λ vs. vs ++ behind) d.2 ∙ append_assoc d.0 d.1 behind) d.3 h)
in_conditions text policy (c ∷ (g ∷ cs)) ts us behind [] e is d h = inl (refl, tt)
in_conditions text policy (c ∷ (g ∷ cs)) ts us behind (zero ∷ path) e is d h =
    inr (at_one text c ts d.0 (d.1 ++ behind) path e c.word refl
    (is ∙ ap (λ vs. vs ++ behind) d.2 ∙ append_assoc d.0 d.1 behind) d.3
    (follow_left (condition_of text c) (joined (map (condition_of text) (g ∷ cs))) path e h))
in_conditions text policy (c ∷ (g ∷ cs)) ts us behind (suc zero ∷ path) e is d h =
    let rest = drop (condition_count c) ts in
    elim (in_conditions text policy (g ∷ cs) rest d.1 behind path e
    (past ts d.0 (d.1 ++ behind) (condition_count c)
    (is ∙ ap (λ vs. vs ++ behind) d.2 ∙ append_assoc d.0 d.1 behind) (condition_length d.0 c d.3)) d.4
    (follow_right (condition_of text c) (joined (map (condition_of text) (g ∷ cs))) path e h)) [
      | inl j ↦ inl (j.0, (refl, j.1))
      | inr a ↦ inr (more_known ts rest _ (InConditions text e) (InConditions text e) (condition_count c, refl)
          (λ mine vs known. known) a)
    ]
in_conditions text policy (c ∷ (g ∷ cs)) ts us behind (suc (suc i) ∷ path) e is d h =
    absurd (follow_off (condition_of text c) (joined (map (condition_of text) (g ∷ cs))) i path e h)

-- ## The policy's tokens

pub record Laid (ts : List Token) (tree : PolicyTree) : Type 0 where
  pub before : List Token
  pub opening : Token
  pub of_principal : List Token
  pub first_comma : Token
  pub of_action : List Token
  pub second_comma : Token
  pub of_resource : List Token
  pub closing : Token
  pub of_conditions : List Token
  pub semicolon : Token
  pub whole : ts ≡ before ++ tree.effect ∷ opening ∷ (of_principal ++ first_comma ∷ (of_action
      ++ second_comma ∷ (of_resource ++ closing ∷ (of_conditions ++ semicolon ∷ []))))
  pub annotated : many p.annotation before tree.annotations
  pub principal : p.entity_part k.Principal of_principal tree.principal
  pub action : p.action_part of_action tree.action
  pub resource : p.entity_part k.Resource of_resource tree.resource
  pub conditions : many (p.condition nesting_limit) of_conditions tree.conditions

pub laid : (ts : List Token) (tree : PolicyTree) → p.policy nesting_limit ts tree → Laid ts tree
laid ts tree d =
    let e = d.second in
    let o = e.second in
    let s = o.second in
    let z = s.second in
    let m = z.second in
    let w = m.second in
    let pr = s.first in
    let c = pr.second in
    let ac = c.second in
    let n = ac.second in
    let re = n.second in
    let scope : s.front ≡ pr.front ++ c.value ∷ (ac.front ++ n.value ∷ re.front)
    = pr.whole ∙ ap (λ us. pr.front ++ us)
    (c.whole ∙ ap (λ us. us ++ c.back) c.first.0 ∙ ap (λ us. c.value ∷ us)
    (ac.whole ∙ ap (λ us. ac.front ++ us)
    (n.whole ∙ ap (λ us. us ++ n.back) n.first.0 ∙ ap (λ us. n.value ∷ us)
    (re.whole ∙ ap (λ us. re.front ++ us) re.second.0 ∙ append-nil re.front)))) in
    let end : s.back ≡ z.value ∷ (m.front ++ w.value ∷ [])
    = z.whole ∙ ap (λ us. us ++ z.back) z.first.0 ∙ ap (λ us. z.value ∷ us)
    (m.whole ∙ ap (λ us. m.front ++ us)
    (w.whole ∙ ap (λ us. us ++ w.back) w.first.0 ∙ ap (λ us. w.value ∷ us) w.second.0)) in
    subst (Laid ts) (sym w.second.1)
    (record {
      before = d.front;
      opening = o.value;
      of_principal = pr.front;
      first_comma = c.value;
      of_action = ac.front;
      second_comma = n.value;
      of_resource = re.front;
      closing = z.value;
      of_conditions = m.front;
      semicolon = w.value;
      whole = d.whole ∙ ap (λ us. d.front ++ us)
          (e.whole ∙ ap (λ us. us ++ e.back) e.first.0 ∙ ap (λ us. e.value ∷ us)
          (o.whole ∙ ap (λ us. us ++ o.back) o.first.0 ∙ ap (λ us. o.value ∷ us)
          (s.whole ∙ ap (λ us. us ++ s.back) scope
          ∙ append_assoc pr.front (c.value ∷ (ac.front ++ n.value ∷ re.front)) s.back
          ∙ ap (λ us. pr.front ++ c.value ∷ us)
          (append_assoc ac.front (n.value ∷ re.front) s.back
          ∙ ap (λ us. ac.front ++ n.value ∷ (re.front ++ us)) end))));
      annotated = d.first;
      principal = subst (p.entity_part k.Principal pr.front) (sym (ap (λ q. q.principal) re.second.1)) pr.first;
      action = subst (p.action_part ac.front) (sym (ap (λ q. q.action) re.second.1)) ac.first;
      resource = subst (p.entity_part k.Resource re.front) (sym (ap (λ q. q.resource) re.second.1)) re.first;
      conditions = m.first;
    })

-- the policy's tokens from its effect on
abbrev pub policy_tokens : (ts : List Token) (tree : PolicyTree) → Laid ts tree → List Token
policy_tokens ts tree l =
    tree.effect ∷ l.opening ∷ (l.of_principal ++ l.first_comma ∷ (l.of_action
    ++ l.second_comma ∷ (l.of_resource ++ l.closing ∷ (l.of_conditions ++ l.semicolon ∷ []))))

-- ## The scope

-- a part of the scope, of which some tokens are the front
part_at : (ts mine behind : List Token) (n : ℕ) (place : NodePlace) (Q : List Token → List Token → Type 0)
    → ts ≡ mine ++ behind → length mine ≡ n → written place ≡ Some (up_to ts (drop n ts)) → Some_in mine → Q mine behind
    → At ts place Q
part_at ts mine behind n place Q is counted there some known = record {
  mine = mine;
  behind = behind;
  some = some;
  within = (0, sym is);
  found = there ∙ ap (λ rest. Some (up_to ts rest)) (past ts mine behind n is counted)
      ∙ ap (λ vs. Some vs) (up_to_is ts mine behind is);
  known = known;
}

module _ (text : List ℕ) (tree : PolicyTree) (whole : Policy) (core_is : IsCoreOf text tree whole) (ts : List Token)
    (l : Laid ts tree) (e : Expr) where
  in_condition_known : (path : List ℕ) (mine behind : List Token) → InConditions text e mine behind
      → (before : List Token) → IsPlacedIn text tree path e before mine behind
  in_condition_known path mine behind (as_expression known) before = of_expression known.0 known.1 known.2
  in_condition_known path mine behind (as_unless c d is meant) before = of_unless c d is meant

  -- a part of the scope on the principal or the resource
  entity_at : (kind : TokenKind) (piece : PartTree) (us mine behind : List Token) (rest : List ℕ)
      → p.entity_part kind mine piece → us ≡ mine ++ behind → (Q : List Token → List Token → Type 0) → Q mine behind
      → At us (in_entity piece us rest) Q
  entity_at kind piece us mine behind rest d is Q known =
      part_at us mine behind (part_count piece) (in_entity piece us rest) Q is (part_fits kind mine piece d) refl
      (record { first = d.value; rest = d.back; whole = d.whole ∙ ap (λ vs. vs ++ d.back) d.first.0 }) known

  from_resource_found : (us : List Token) (path : List ℕ)
      → us ≡ l.of_resource ++ l.closing ∷ (l.of_conditions ++ l.semicolon ∷ [])
      → follow path (core.And (entity_part Resource whole.scope.resource) whole.condition) ≡ Some e
      → Found (policy_tokens ts tree l) us path
      (from_resource (policy_tokens ts tree l) tree us path)
      (λ mine behind. (before : List Token) → IsPlacedIn text tree (1 ∷ 1 ∷ path) e before mine behind)
  from_resource_found us [] is h = inl (refl, tt)
  from_resource_found us (zero ∷ path) is h =
      inr (entity_at k.Resource tree.resource us l.of_resource _ path l.resource is
      (λ mine behind. (before : List Token) → IsPlacedIn text tree (1 ∷ 1 ∷ 0 ∷ path) e before mine behind)
      (λ before. of_resource path refl l.resource))
  from_resource_found us (suc zero ∷ path) is h =
      let rest = drop 1 (drop (part_count tree.resource) us) in
      elim (in_conditions text _ tree.conditions rest l.of_conditions (l.semicolon ∷ []) path e
      (ap (drop 1) (past us l.of_resource _ (part_count tree.resource) is
      (part_fits k.Resource l.of_resource tree.resource l.resource)))
      l.conditions
      (ap (follow path) (sym core_is.condition) ∙ follow_right _ whole.condition path e h)) [
        | inl j ↦ inl (j.0, (refl, j.1))
        | inr a ↦ inr (more_known us rest _ (InConditions text e) _
            (ends_later 1 _ _ us refl (ends_later (part_count tree.resource) us _ us refl (ends_here us us refl)))
            (in_condition_known (1 ∷ 1 ∷ 1 ∷ path)) a)
      ]
  from_resource_found us (suc (suc i) ∷ path) is h = absurd (follow_off _ _ i path e h)

  from_action_found : (us : List Token) (path : List ℕ)
      → us ≡ l.of_action ++ l.second_comma ∷ (l.of_resource ++ l.closing ∷ (l.of_conditions ++ l.semicolon ∷ []))
      → follow path (core.And (scope_action whole.scope.action)
      (core.And (entity_part Resource whole.scope.resource) whole.condition)) ≡ Some e
      → Found (policy_tokens ts tree l) us path
      (from_action (policy_tokens ts tree l) tree us path)
      (λ mine behind. (before : List Token) → IsPlacedIn text tree (1 ∷ path) e before mine behind)
  from_action_found us [] is h = inl (refl, tt)
  from_action_found us (zero ∷ path) is h =
      inr (part_at us l.of_action _ (action_count tree.action) (in_action tree.action us path) _ is
      (action_fits l.of_action tree.action l.action) refl
      (record {
        first = l.action.value;
        rest = l.action.back;
        whole = l.action.whole ∙ ap (λ vs. vs ++ l.action.back) l.action.first.0;
      })
      (λ before. of_action path refl l.action))
  from_action_found us (suc zero ∷ path) is h =
      let rest = drop 1 (drop (action_count tree.action) us) in
      elim (from_resource_found rest path
      (ap (drop 1) (past us l.of_action _ (action_count tree.action) is (action_fits l.of_action tree.action l.action)))
      (follow_right _ _ path e h)) [
        | inl j ↦ inl (j.0, (refl, j.1))
        | inr a ↦ inr (more_known us rest _ _ _
            (ends_later 1 _ _ us refl (ends_later (action_count tree.action) us _ us refl (ends_here us us refl)))
            (λ mine behind known. known) a)
      ]
  from_action_found us (suc (suc i) ∷ path) is h = absurd (follow_off _ _ i path e h)

  from_effect_found : (path : List ℕ) → follow path (expression_of whole) ≡ Some e
      → Found (policy_tokens ts tree l)
      (policy_tokens ts tree l) path
      (from_effect (policy_tokens ts tree l) tree path)
      (λ mine behind. (before : List Token) → IsPlacedIn text tree path e before mine behind)
  from_effect_found [] h = inl (refl, tt)
  from_effect_found (zero ∷ path) h =
      inr (more_known _ _ _ _ _ (2, refl) (λ mine behind known. known)
      (entity_at k.Principal tree.principal _ l.of_principal _ path l.principal refl
      (λ mine behind. (before : List Token) → IsPlacedIn text tree (0 ∷ path) e before mine behind)
      (λ before. of_principal path refl l.principal)))
  from_effect_found (suc zero ∷ path) h =
      let us = l.of_principal ++ l.first_comma ∷ (l.of_action
      ++ l.second_comma ∷ (l.of_resource ++ l.closing ∷ (l.of_conditions ++ l.semicolon ∷ []))) in
      let rest = drop 1 (drop (part_count tree.principal) us) in
      elim (from_action_found rest path
      (ap (drop 1) (past us l.of_principal _ (part_count tree.principal) refl
      (part_fits k.Principal l.of_principal tree.principal l.principal)))
      (follow_right _ _ path e h)) [
        | inl j ↦ inl (j.0, (refl, j.1))
        | inr a ↦ inr (more_known _ rest _ _ _
            (ends_later 1 _ _ _ refl (ends_later (part_count tree.principal) us _ _ refl (2, refl)))
            (λ mine behind known. known) a)
      ]
  from_effect_found (suc (suc i) ∷ path) h = absurd (follow_off _ _ i path e h)

  -- ## The law

  pub place_is : (path : List ℕ) → IsLexed text ts
      → place_at ts tree path
      ≡ from_effect (policy_tokens ts tree l) tree path
  place_is path lexed =
      ap (λ us. from_effect us tree path)
      (ap (from_byte tree.effect.start) l.whole
      ∙ from_byte-is text l.before tree.effect _ (subst (IsLexed text) l.whole lexed))

  -- tokens behind the policy's first ones, among all tokens
  cut_is : (n : ℕ) (us vs rest : List Token) → us ≡ vs → us ++ rest ≡ drop n (policy_tokens ts tree l)
      → vs ++ rest ≡ drop (n + length l.before) ts
  cut_is n us vs rest same is =
      ap (λ ws. ws ++ rest) (sym same) ∙ is
      ∙ ap (drop n) (sym (drop-append_seam l.before (policy_tokens ts tree l)) ∙ ap (drop (length l.before)) (sym l.whole))
      ∙ drop-drop n (length l.before) ts ∙ ap (λ m. drop m ts) (swapped (length l.before) n)

  pub stands_in : (path : List ℕ) → IsLexed text ts → follow path (expression_of whole) ≡ Some e
      → HasTokensIn text tree path e ts
  stands_in path lexed h =
      elim (from_effect_found path h) [
        | inl j ↦ record {
          before = l.before;
          first = tree.effect;
          mine = l.opening ∷ (l.of_principal ++ l.first_comma ∷ (l.of_action
              ++ l.second_comma ∷ (l.of_resource ++ l.closing ∷ (l.of_conditions ++ l.semicolon ∷ []))));
          behind = [];
          whole = l.whole ∙ ap (λ us. l.before ++ us) (sym (append-nil _));
          found = ap written (place_is path lexed ∙ j.0);
          placed = of_policy j.1 l.annotated refl;
        }
        | inr a ↦
            let n = a.within.0 in
            let s = a.some in
            let all : ts ≡ take (n + length l.before) ts ++ (s.first ∷ s.rest ++ a.behind)
            = sym (take-append-drop (n + length l.before) ts)
            ∙ ap (λ us. take (n + length l.before) ts ++ us) (sym (cut_is n a.mine (s.first ∷ s.rest) a.behind s.whole a.within.1)) in
            record {
              before = take (n + length l.before) ts;
              first = s.first;
              mine = s.rest;
              behind = a.behind;
              whole = all;
              found = ap written (place_is path lexed) ∙ a.found ∙ ap (λ us. Some us) s.whole;
              placed = subst (λ us. IsPlacedIn text tree path e (take (n + length l.before) ts) us a.behind) s.whole
                  (a.known (take (n + length l.before) ts));
            }
      ]
