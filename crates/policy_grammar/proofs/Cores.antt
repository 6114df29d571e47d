-- A tree stands for one policy.
use Rattle.std.proofs.Common.{◌≡◌, ℕ, List, [], ◌∷◌, Option, Some, None, find, refl, sym, ◌∙◌, ap}
use Rattle.std.specs.List.{AllZip, enumerate_from}
use Rattle.values.specs.declared.entity_uid.EntityUid.{EntityUid}
use Rattle.grammar_core.specs.declared.expr.Expr.{Expr}
use Rattle.grammar_desugaring.specs.grammar_syntax.declared.token.Token.{Token}
use Rattle.grammar_desugaring.specs.grammar_syntax.Lexing.{spelling_of}
use Rattle.grammar_desugaring.specs.grammar_syntax.Strings.{OneValue}
use Rattle.grammar_desugaring.specs.grammar_syntax.declared.name_trees.UidTree.{UidTree}
use Rattle.grammar_parsing.specs.declared.tree.Annotation.{Annotation}
use Rattle.grammar_parsing.specs.declared.tree.PartTree.{PartTree}
use Rattle.grammar_parsing.specs.declared.tree.PartTree.TheVariants as part
use Rattle.grammar_parsing.specs.declared.tree.ActionTree.{ActionTree}
use Rattle.grammar_parsing.specs.declared.tree.ActionTree.TheVariants as action
use Rattle.grammar_parsing.specs.declared.tree.PolicyTree.{PolicyTree}
use Rattle.policy_grammar.specs.declared.policy.Effect.{Effect}
use Rattle.policy_grammar.specs.declared.policy.Effect.TheVariants.{Permit, Forbid}
use Rattle.policy_grammar.specs.declared.policy.EntityScope.{EntityScope}
use Rattle.policy_grammar.specs.declared.policy.EntityScope.TheVariants as entity
use Rattle.policy_grammar.specs.declared.policy.ActionScope.{ActionScope}
use Rattle.policy_grammar.specs.declared.policy.ActionScope.TheVariants as actions
use Rattle.policy_grammar.specs.declared.policy.Scope.{Scope}
use Rattle.policy_grammar.specs.declared.policy.Policy.{Policy}
use Rattle.policy_grammar.specs.CoreOf.{IsUidOf, IsEntityScopeOf, IsActionScopeOf, effect_word, IsCoreOf, AreCoresOf}
use Rattle.policy_grammar.specs.CoreOf.{IsValueOf, is_id, IsNameBy, IsNameOf, AreNamesOf}

pub all_zip-same : {A B : Type 0} (R : A → B → Type 0) → ((x : A) (y z : B) → R x y → R x z → y ≡ z) → (xs : List A) (ys zs : List B) → AllZip R xs ys → AllZip R xs zs → ys ≡ zs
all_zip-same R same [] [] [] all these = refl
all_zip-same R same [] [] (z ∷ zs) all these = absurd these
all_zip-same R same [] (y ∷ ys) zs all these = absurd all
all_zip-same R same (x ∷ xs) [] zs all these = absurd all
all_zip-same R same (x ∷ xs) (y ∷ ys) [] all these = absurd these
all_zip-same R same (x ∷ xs) (y ∷ ys) (z ∷ zs) all these =
    ap (λ w. w ∷ ys) (same x y z all.0 these.0) ∙ ap (λ ws. z ∷ ws) (all_zip-same R same xs ys zs all.1 these.1)

pub uid-same : (text : List ℕ) (tree : UidTree) (u v : EntityUid) → IsUidOf text tree u → IsUidOf text tree v → u ≡ v
uid-same text tree u v a b = a ∙ sym b

part-same : (text : List ℕ) (tree : PartTree) (s t : EntityScope) → IsEntityScopeOf text tree s → IsEntityScopeOf text tree t → s ≡ t
part-same text part.Any entity.Any entity.Any a b = refl
part-same text part.Any entity.Any _ a b = absurd b
part-same text part.Any _ _ a b = absurd a
part-same text (part.Equal tree) (entity.Equal u) (entity.Equal v) a b = ap entity.Equal (uid-same text tree u v a b)
part-same text (part.Equal tree) (entity.Equal u) _ a b = absurd b
part-same text (part.Equal tree) _ _ a b = absurd a
part-same text (part.In tree) (entity.In u) (entity.In v) a b = ap entity.In (uid-same text tree u v a b)
part-same text (part.In tree) (entity.In u) _ a b = absurd b
part-same text (part.In tree) _ _ a b = absurd a
part-same text (part.Is path) (entity.Is n) (entity.Is m) a b = ap entity.Is (a ∙ sym b)
part-same text (part.Is path) (entity.Is n) _ a b = absurd b
part-same text (part.Is path) _ _ a b = absurd a
part-same text (part.IsIn path tree) (entity.IsIn n u) (entity.IsIn m v) a b =
    ap (λ x. entity.IsIn x u) (a.0 ∙ sym b.0) ∙ ap (entity.IsIn m) (uid-same text tree u v a.1 b.1)
part-same text (part.IsIn path tree) (entity.IsIn n u) _ a b = absurd b
part-same text (part.IsIn path tree) _ _ a b = absurd a

action-same : (text : List ℕ) (tree : ActionTree) (s t : ActionScope) → IsActionScopeOf text tree s → IsActionScopeOf text tree t → s ≡ t
action-same text action.Any actions.Any actions.Any a b = refl
action-same text action.Any actions.Any _ a b = absurd b
action-same text action.Any _ _ a b = absurd a
action-same text (action.Equal tree) (actions.Equal u) (actions.Equal v) a b = ap actions.Equal (uid-same text tree u v a b)
action-same text (action.Equal tree) (actions.Equal u) _ a b = absurd b
action-same text (action.Equal tree) _ _ a b = absurd a
action-same text (action.In tree) (actions.In u) (actions.In v) a b = ap actions.In (uid-same text tree u v a b)
action-same text (action.In tree) (actions.In u) _ a b = absurd b
action-same text (action.In tree) _ _ a b = absurd a
action-same text (action.InList trees) (actions.InList us) (actions.InList vs) a b =
    ap actions.InList (all_zip-same (IsUidOf text) (uid-same text) trees us vs a b)
action-same text (action.InList trees) (actions.InList us) _ a b = absurd b
action-same text (action.InList trees) _ _ a b = absurd a

effect-same : (e f : Effect) → effect_word e ≡ effect_word f → e ≡ f
effect-same Permit Permit same = refl
effect-same Permit Forbid same = absurd (cc)
effect-same Forbid Permit same = absurd (cc)
effect-same Forbid Forbid same = refl

abbrev scope : EntityScope → ActionScope → EntityScope → Scope
scope principal action resource = record { principal = principal; action = action; resource = resource }

abbrev policy : Effect → Scope → Expr → Policy
policy effect scope condition = record { effect = effect; scope = scope; condition = condition }

pub core-same : (text : List ℕ) (tree : PolicyTree) (p q : Policy) → IsCoreOf text tree p → IsCoreOf text tree q → p ≡ q
core-same text tree p q a b =
    ap (λ e. policy e p.scope p.condition) (effect-same p.effect q.effect (sym a.effect ∙ b.effect))
    ∙ ap (λ s. policy q.effect s p.condition)
    (ap (λ s. scope s p.scope.action p.scope.resource) (part-same text tree.principal p.scope.principal q.scope.principal a.principal b.principal)
    ∙ ap (λ s. scope q.scope.principal s p.scope.resource) (action-same text tree.action p.scope.action q.scope.action a.action b.action)
    ∙ ap (scope q.scope.principal q.scope.action) (part-same text tree.resource p.scope.resource q.scope.resource a.resource b.resource))
    ∙ ap (policy q.effect q.scope) (a.condition ∙ sym b.condition)

value-same : OneValue → (text : List ℕ) (o : Option Token) (v w : List ℕ) → IsValueOf text o v → IsValueOf text o w → v ≡ w
value-same values text None v w a b = a ∙ sym b
value-same values text (Some token) v w a b = values v w (spelling_of text token) a b

name_by-same : OneValue → (text : List ℕ) (place : ℕ) (o : Option Annotation) (n m : List ℕ) → IsNameBy text place o n → IsNameBy text place o m → n ≡ m
name_by-same values text place None n m a b = a ∙ sym b
name_by-same values text place (Some annotation) n m a b = value-same values text annotation.value n m a b

pub names-same : OneValue → (text : List ℕ) (trees : List PolicyTree) (ns ms : List (List ℕ)) → AreNamesOf text trees ns → AreNamesOf text trees ms → ns ≡ ms
names-same values text trees ns ms =
    all_zip-same (λ (placed : ℕ × PolicyTree). IsNameOf text placed.0 placed.1)
    (λ placed n m a b. name_by-same values text placed.0 (find (is_id text) placed.1.annotations) n m a b) (enumerate_from 0 trees) ns ms

pub cores-same : (text : List ℕ) (trees : List PolicyTree) (ps qs : List Policy) → AreCoresOf text trees ps → AreCoresOf text trees qs → ps ≡ qs
cores-same text trees ps qs = all_zip-same (IsCoreOf text) (core-same text) trees ps qs
