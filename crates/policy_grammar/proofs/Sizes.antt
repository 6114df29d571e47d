-- How large a policy is.
use Rattle.std.proofs.Common.{◌≡◌, ◌↔◌, ℕ, suc, ◌+◌, ◌≤◌, max, List, [], ◌∷◌, length, map, refl, sym, ◌∙◌, ap, arith}
use Rattle.std.specs.List.{AllZip, AllByRecursion}
use Rattle.std.proofs.lemmas.Slice.Zip.{AllZip-long}
use Rattle.values.specs.declared.entity_uid.EntityUid.{EntityUid}
use Rattle.grammar_core.specs.declared.leaf.Literal.{Literal}
use Rattle.grammar_core.specs.declared.leaf.Literal.TheVariants as literal
use Rattle.grammar_core.specs.declared.leaf.Variable.{Variable}
use Rattle.grammar_core.specs.declared.leaf.Variable.TheVariants.{Principal, Action, Resource}
use Rattle.grammar_core.specs.declared.operator.Unary.{Unary}
use Rattle.grammar_core.specs.declared.operator.Unary.TheVariants.{Is}
use Rattle.grammar_core.specs.declared.operator.Binary.{Binary}
use Rattle.grammar_core.specs.declared.operator.Binary.TheVariants.{Equal, In}
use Rattle.grammar_core.specs.declared.expr.Expr.{Expr}
use Rattle.grammar_core.specs.declared.expr.Expr.TheVariants as core
use Rattle.grammar_core.specs.Size as size
use Rattle.grammar_core.specs.Size.{height_step, node_count_step, greatest, total, capped}
use Rattle.grammar_core.proofs.Forms.{fold_literal, fold_variable, fold_and, fold_unary, fold_binary, fold_set}
use Rattle.grammar_desugaring.specs.grammar_syntax.declared.name_trees.UidTree.{UidTree}
use Rattle.grammar_parsing.specs.declared.tree.PartTree.{PartTree}
use Rattle.grammar_parsing.specs.declared.tree.PartTree.TheVariants as part
use Rattle.grammar_parsing.specs.declared.tree.ActionTree.{ActionTree}
use Rattle.grammar_parsing.specs.declared.tree.ActionTree.TheVariants as action
use Rattle.grammar_parsing.specs.declared.tree.PolicyTree.{PolicyTree}
use Rattle.policy_grammar.specs.declared.policy.EntityScope.{EntityScope}
use Rattle.policy_grammar.specs.declared.policy.EntityScope.TheVariants as entity
use Rattle.policy_grammar.specs.declared.policy.ActionScope.{ActionScope}
use Rattle.policy_grammar.specs.declared.policy.ActionScope.TheVariants as actions
use Rattle.policy_grammar.specs.declared.policy.Policy.{Policy}
use Rattle.policy_grammar.specs.PolicyExpression.{entity_literal, entity_part, action_part, expression_of}
use Rattle.policy_grammar.specs.Conditions.{conditions_of}
use Rattle.policy_grammar.specs.CoreOf.{IsUidOf, IsEntityScopeOf, IsActionScopeOf, IsCoreOf, AreCoresOf}
use Rattle.policy_grammar.specs.Limits.{Shape, leaf, over, both, literals, sized, node_count, height, part_shape}
use Rattle.policy_grammar.specs.Limits.{action_shape, shape_over, shape_of, IsSmallOver, IsSmallTree, IsSmallPolicy}
use Rattle.policy_grammar.specs.Limits.{ShapesAreSizes, NineNodesMore, HeadsAreLow}

-- ---- no head is too high

low_part : (p : PartTree) → height (part_shape p) ≤ 3
low_part part.Any = omega arith
low_part (part.Equal uid) = omega arith
low_part (part.In uid) = omega arith
low_part (part.Is name) = omega arith
low_part (part.IsIn name uid) = omega arith

low_action : (a : ActionTree) → height (action_shape a) ≤ 3
low_action action.Any = omega arith
low_action (action.Equal uid) = omega arith
low_action (action.In uid) = omega arith
low_action (action.InList []) = omega arith
low_action (action.InList (uid ∷ uids)) = omega arith

low : (p a r c : ℕ) → p ≤ 3 → a ≤ 3 → r ≤ 3 → max p (max a (max r c + 1) + 1) + 1 ≤ max 6 (c + 3)
low p a r c hp ha hr = omega arith

pub heads_are_low : HeadsAreLow
heads_are_low tree conditions =
    low (height (part_shape tree.principal)) (height (action_shape tree.action)) (height (part_shape tree.resource)) (height conditions)
    (low_part tree.principal) (low_action tree.action) (low_part tree.resource)

low_enough : (p a r c : ℕ) → p ≤ 3 → a ≤ 3 → r ≤ 3 → c ≤ 997 → max p (max a (max r c + 1) + 1) + 1 ≤ 1000
low_enough p a r c hp ha hr hc = omega arith

too_high : (p a r c : ℕ) → max p (max a (max r c + 1) + 1) + 1 ≤ 1000 → c ≤ 997
too_high p a r c h = omega arith

-- the height of the conditions decides
pub low_over : (tree : PolicyTree) (high many : ℕ) → high ≤ 997 → height (shape_over tree (sized high many)) ≤ 1000
low_over tree high many h =
    low_enough (height (part_shape tree.principal)) (height (action_shape tree.action)) (height (part_shape tree.resource)) high
    (low_part tree.principal) (low_action tree.action) (low_part tree.resource) h

pub low_under : (tree : PolicyTree) (high many : ℕ) → height (shape_over tree (sized high many)) ≤ 1000 → high ≤ 997
low_under tree high many h = too_high (height (part_shape tree.principal)) (height (action_shape tree.action)) (height (part_shape tree.resource)) high h

-- ---- capped sizes decide as the sizes do

capped_height : (p a r c : ℕ) → max p (max a (max r (capped c) + 1) + 1) + 1 ≤ 1000 → max p (max a (max r c + 1) + 1) + 1 ≤ 1000
capped_height p a r c h = let low : capped c ≤ 997 = too_high p a r (capped c) h in let same : c ≡ capped c = omega arith in omega arith

height_capped : (p a r c : ℕ) → max p (max a (max r c + 1) + 1) + 1 ≤ 1000 → max p (max a (max r (capped c) + 1) + 1) + 1 ≤ 1000
height_capped p a r c h = let low : c ≤ 997 = too_high p a r c h in let same : c ≡ capped c = omega arith in omega arith

capped_forms : (p a r c : ℕ) → p + (a + (r + capped c + 1) + 1) + 1 ≤ 1000000 → p + (a + (r + c + 1) + 1) + 1 ≤ 1000000
capped_forms p a r c h = omega arith

forms_capped : (p a r c : ℕ) → p + (a + (r + c + 1) + 1) + 1 ≤ 1000000 → p + (a + (r + capped c + 1) + 1) + 1 ≤ 1000000
forms_capped p a r c h = omega arith

pub decides : (tree : PolicyTree) (high many : ℕ) (b : Type 0) → b ↔ IsSmallOver tree (capped high) (capped many) → b ↔ IsSmallOver tree high many
decides tree high many b iff =
    let p = tree.principal in
    let a = tree.action in
    let r = tree.resource in (
      λ yes'. let small = iff.0 yes' in (
        capped_height (height (part_shape p)) (height (action_shape a)) (height (part_shape r)) high small.0,
        capped_forms (node_count (part_shape p)) (node_count (action_shape a)) (node_count (part_shape r)) many small.1,
      ),
      λ small. iff.1 (
        height_capped (height (part_shape p)) (height (action_shape a)) (height (part_shape r)) high small.0,
        forms_capped (node_count (part_shape p)) (node_count (action_shape a)) (node_count (part_shape r)) many small.1,
      ),
    )

-- ---- shapes have the sizes of expressions

record Same (s : Shape) (e : Expr) : Type 0 where
  pub high : height s ≡ size.height e
  pub many : node_count s ≡ size.node_count e

of_literal : (l : Literal) → Same leaf (core.Literal l)
of_literal l = record { high = sym (fold_literal ℕ height_step l); many = sym (fold_literal ℕ node_count_step l) }

of_variable : (v : Variable) → Same leaf (core.Variable v)
of_variable v = record { high = sym (fold_variable ℕ height_step v); many = sym (fold_variable ℕ node_count_step v) }

of_unary : (op : Unary) (s : Shape) (e : Expr) → Same s e → Same (over s) (core.Unary op e)
of_unary op s e same = record {
  high = ap (λ n. n + 1) same.high ∙ sym (fold_unary ℕ height_step op e);
  many = ap (λ n. n + 1) same.many ∙ sym (fold_unary ℕ node_count_step op e);
}

of_and : (s t : Shape) (d e : Expr) → Same s d → Same t e → Same (both s t) (core.And d e)
of_and s t d e a b = record {
  high = ap (λ n. max n (height t) + 1) a.high ∙ ap (λ n. max (size.height d) n + 1) b.high ∙ sym (fold_and ℕ height_step d e);
  many = ap (λ n. n + node_count t + 1) a.many ∙ ap (λ n. size.node_count d + n + 1) b.many ∙ sym (fold_and ℕ node_count_step d e);
}

of_binary : (op : Binary) (s t : Shape) (d e : Expr) → Same s d → Same t e → Same (both s t) (core.Binary op d e)
of_binary op s t d e a b = record {
  high = ap (λ n. max n (height t) + 1) a.high ∙ ap (λ n. max (size.height d) n + 1) b.high ∙ sym (fold_binary ℕ height_step op d e);
  many = ap (λ n. n + node_count t + 1) a.many ∙ ap (λ n. size.node_count d + n + 1) b.many ∙ sym (fold_binary ℕ node_count_step op d e);
}

high_literals : (uid : EntityUid) (uids : List EntityUid) → greatest (map size.height (map entity_literal (uid ∷ uids))) ≡ 1
high_literals uid [] = let one : size.height (entity_literal uid) ≡ 1 = fold_literal ℕ height_step (literal.Entity uid) in omega arith
high_literals uid (other ∷ uids) =
    let one : size.height (entity_literal uid) ≡ 1 = fold_literal ℕ height_step (literal.Entity uid) in
    let rest : greatest (map size.height (map entity_literal (other ∷ uids))) ≡ 1 = high_literals other uids in
    omega arith

many_literals : (uids : List EntityUid) → total (map size.node_count (map entity_literal uids)) ≡ length uids
many_literals [] = refl
many_literals (uid ∷ uids) =
    let one : size.node_count (entity_literal uid) ≡ 1 = fold_literal ℕ node_count_step (literal.Entity uid) in
    let rest : total (map size.node_count (map entity_literal uids)) ≡ length uids = many_literals uids in
    omega arith

of_set : (n : ℕ) (uid : EntityUid) (uids : List EntityUid) → length uids ≡ n → Same (literals (suc n)) (core.Set (map entity_literal (uid ∷ uids)))
of_set n uid uids long =
    let es = map entity_literal (uid ∷ uids) in
    record {
      high = sym (fold_set ℕ height_step es ∙ ap (λ m. m + 1) (high_literals uid uids));
      many = sym (fold_set ℕ node_count_step es ∙ ap (λ m. m + 1) (many_literals (uid ∷ uids) ∙ ap (λ m. suc m) long));
    }

between : (op : Binary) (x : Variable) (uid : EntityUid) → Same (both leaf leaf) (core.Binary op (core.Variable x) (entity_literal uid))
between op x uid = of_binary op leaf leaf (core.Variable x) (entity_literal uid) (of_variable x) (of_literal (literal.Entity uid))

of_type : (x : Variable) (name : List ℕ) → Same (over leaf) (core.Unary (Is name) (core.Variable x))
of_type x name = of_unary (Is name) leaf (core.Variable x) (of_variable x)

of_part : (text : List ℕ) (x : Variable) (p : PartTree) (s : EntityScope) → IsEntityScopeOf text p s → Same (part_shape p) (entity_part x s)
of_part text x part.Any entity.Any is = of_literal (literal.Boolean _)
of_part text x part.Any _ is = absurd is
of_part text x (part.Equal tree) (entity.Equal uid) is = between Equal x uid
of_part text x (part.Equal tree) _ is = absurd is
of_part text x (part.In tree) (entity.In uid) is = between In x uid
of_part text x (part.In tree) _ is = absurd is
of_part text x (part.Is path) (entity.Is name) is = of_type x name
of_part text x (part.Is path) _ is = absurd is
of_part text x (part.IsIn path tree) (entity.IsIn name uid) is =
    of_and (over leaf) (both leaf leaf) (core.Unary (Is name) (core.Variable x)) (core.Binary In (core.Variable x) (entity_literal uid)) (of_type x name) (between In x uid)
of_part text x (part.IsIn path tree) _ is = absurd is

of_actions : (text : List ℕ) (trees : List UidTree) (uids : List EntityUid) → AllZip (IsUidOf text) trees uids →
    Same (action_shape (action.InList trees)) (action_part (actions.InList uids))
of_actions text [] [] are = of_literal (literal.Boolean _)
of_actions text [] (uid ∷ uids) are = absurd are
of_actions text (tree ∷ trees) [] are = absurd are
of_actions text (tree ∷ trees) (uid ∷ uids) are =
    of_binary In leaf (literals (suc (length trees))) (core.Variable Action) (core.Set (map entity_literal (uid ∷ uids))) (of_variable Action)
    (of_set (length trees) uid uids (AllZip-long (IsUidOf text) trees uids are.1))

of_action : (text : List ℕ) (a : ActionTree) (s : ActionScope) → IsActionScopeOf text a s → Same (action_shape a) (action_part s)
of_action text action.Any actions.Any is = of_literal (literal.Boolean _)
of_action text action.Any _ is = absurd is
of_action text (action.Equal tree) (actions.Equal uid) is = between Equal Action uid
of_action text (action.Equal tree) _ is = absurd is
of_action text (action.In tree) (actions.In uid) is = between In Action uid
of_action text (action.In tree) _ is = absurd is
of_action text (action.InList trees) (actions.InList uids) is = of_actions text trees uids is
of_action text (action.InList trees) _ is = absurd is

of_condition : (d e : Expr) → e ≡ d → Same (sized (size.height d) (size.node_count d)) e
of_condition d e is = record { high = ap size.height (sym is); many = ap size.node_count (sym is) }

whole : (text : List ℕ) (tree : PolicyTree) (policy : Policy) → IsCoreOf text tree policy → Same (shape_of text tree) (expression_of policy)
whole text tree policy is =
    let scope = policy.scope in
    let d = conditions_of text tree.conditions in
    let c = sized (size.height d) (size.node_count d) in
    let resource = of_and (part_shape tree.resource) c (entity_part Resource scope.resource) policy.condition (of_part text Resource tree.resource scope.resource is.resource) (of_condition d policy.condition is.condition) in
    let action' = of_and (action_shape tree.action) (both (part_shape tree.resource) c) (action_part scope.action) (core.And (entity_part Resource scope.resource) policy.condition) (of_action text tree.action scope.action is.action) resource in
    of_and (part_shape tree.principal) (both (action_shape tree.action) (both (part_shape tree.resource) c)) (entity_part Principal scope.principal)
    (core.And (action_part scope.action) (core.And (entity_part Resource scope.resource) policy.condition)) (of_part text Principal tree.principal scope.principal is.principal) action'

pub shapes_are_sizes : ShapesAreSizes
shapes_are_sizes text tree policy is = let same = whole text tree policy is in (same.high, same.many)

nine : (text : List ℕ) (cs : List _) → cs ≡ [] → size.node_count (conditions_of text cs) ≡ 1
nine text cs none = ap (λ ds. size.node_count (conditions_of text ds)) none ∙ fold_literal ℕ node_count_step (literal.Boolean _)

sum : (p a r c n : ℕ) → p ≡ 1 → a ≡ n + 3 → r ≡ 1 → c ≡ 1 → p + (a + (r + c + 1) + 1) + 1 ≡ n + 9
sum p a r c n hp ha hr hc = omega arith

pub nine_forms_more : NineNodesMore
nine_forms_more text tree uid uids principal acts resource none =
    sum (node_count (part_shape tree.principal)) (node_count (action_shape tree.action)) (node_count (part_shape tree.resource)) (size.node_count (conditions_of text tree.conditions)) (length (uid ∷ uids))
    (ap (λ p. node_count (part_shape p)) principal) (ap (λ a. node_count (action_shape a)) acts ∙ omega arith) (ap (λ p. node_count (part_shape p)) resource) (nine text tree.conditions none)

-- ---- so the tree's size is the policy's

lower : (n m k : ℕ) → n ≡ m → n ≤ k → m ≤ k
lower n m k same h = omega arith

pub small_core : (text : List ℕ) (tree : PolicyTree) (policy : Policy) → IsCoreOf text tree policy → IsSmallTree text tree → IsSmallPolicy policy
small_core text tree policy is small =
    let same = whole text tree policy is in (
      lower (height (shape_of text tree)) (size.height (expression_of policy)) 1000 same.high small.0,
      lower (node_count (shape_of text tree)) (size.node_count (expression_of policy)) 1000000 same.many small.1,
    )

pub small_tree : (text : List ℕ) (tree : PolicyTree) (policy : Policy) → IsCoreOf text tree policy → IsSmallPolicy policy → IsSmallTree text tree
small_tree text tree policy is small =
    let same = whole text tree policy is in (
      lower (size.height (expression_of policy)) (height (shape_of text tree)) 1000 (sym same.high) small.0,
      lower (size.node_count (expression_of policy)) (node_count (shape_of text tree)) 1000000 (sym same.many) small.1,
    )

pub small_cores : (text : List ℕ) (trees : List PolicyTree) (policies : List Policy) → AreCoresOf text trees policies → AllByRecursion (IsSmallTree text) trees →
    AllByRecursion IsSmallPolicy policies
small_cores text [] [] are small = tt
small_cores text [] (policy ∷ policies) are small = absurd are
small_cores text (tree ∷ trees) [] are small = absurd are
small_cores text (tree ∷ trees) (policy ∷ policies) are small = (small_core text tree policy are.0 small.0, small_cores text trees policies are.1 small.1)

pub small_trees : (text : List ℕ) (trees : List PolicyTree) (policies : List Policy) → AreCoresOf text trees policies → AllByRecursion IsSmallPolicy policies →
    AllByRecursion (IsSmallTree text) trees
small_trees text [] [] are small = tt
small_trees text [] (policy ∷ policies) are small = absurd are
small_trees text (tree ∷ trees) [] are small = absurd are
small_trees text (tree ∷ trees) (policy ∷ policies) are small = (small_tree text tree policy are.0 small.0, small_trees text trees policies are.1 small.1)
