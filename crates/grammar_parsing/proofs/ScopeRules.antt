-- The rules of a scope: of an entity, an action and the scope of both and the resource.
use Rattle.std.proofs.Common.{◌≡◌, true, false, List, [], ◌∷◌, refl}
use Rattle.grammar_syntax.specs.declared.token.TokenKind.{TokenKind}
use Rattle.grammar_syntax.specs.declared.token.TokenKind.TheVariants as k
use Rattle.grammar_syntax.specs.declared.name_trees.PathTree.{PathTree}
use Rattle.grammar_syntax.specs.declared.name_trees.UidTree.{UidTree}
use Rattle.grammar_parsing.specs.declared.tree.PartTree.{PartTree}
use Rattle.grammar_parsing.specs.declared.tree.PartTree.TheVariants as part
use Rattle.grammar_parsing.specs.declared.tree.ActionTree.{ActionTree}
use Rattle.grammar_parsing.specs.declared.tree.ActionTree.TheVariants as action
use Rattle.grammar_parsing.specs.declared.tree.ScopeTree.{ScopeTree}
use Rattle.grammar_syntax.specs.Kinds.{Kinds, only, same_kind}
use Rattle.grammar_syntax.specs.Lang.{Lang}
use Rattle.grammar_syntax.specs.Lang as lang
use Rattle.grammar_parsing.specs.Grammar as g
use Rattle.grammar_parsing.specs.Grammar.{identifiers, is_in}
use Rattle.grammar_syntax.specs.ParseResults.{Begins}
use Rattle.grammar_syntax.specs.ParserCombinators.{Parser, pure, either, ◌>>=◌}
use Rattle.grammar_parsing.specs.inner.Parsing as r
use Rattle.grammar_syntax.proofs.Sets.{apart, within}
use Rattle.grammar_syntax.proofs.Rules.{Rule, Levels}
use Rattle.grammar_syntax.proofs.Forms.{Starts, Leads, nothing, or, starts_both, leads_empty}
use Rattle.grammar_syntax.proofs.Forms.{leads_or, leads_both, leads_many, leads_maybe, alive_empty}
use Rattle.grammar_syntax.proofs.Forms.{alive_right}
use Rattle.grammar_syntax.proofs.More.{maybe}
use Rattle.grammar_syntax.proofs.Many.{each, alive_many}
use Rattle.grammar_syntax.proofs.Steps.{seq, behind, go, go_one, alive_maybe, leads_first}
use Rattle.grammar_syntax.proofs.Steps.{leads_one, starts_one}
use Rattle.grammar_syntax.proofs.NameRules.{after_name, path_rule, alive_path, uid_rule, starts_uid}
use Rattle.grammar_syntax.proofs.NameRules.{alive_uid}

-- ---- principal and resource

-- what goes on with a part of a scope
abbrev pub after_part : Kinds
after_part k.Colons = true
after_part k.Equal = true
after_part k.In = true
after_part k.Is = true
after_part _ = false

abbrev typed_tail : PathTree → Lang PartTree
typed_tail p = lang.◌>>=◌ (lang.optional g.in_uid) (λ entity. lang.empty (is_in p entity))

abbrev or_any : Lang PartTree
or_any = lang.◌or◌ g.type_test (lang.empty part.Any)

abbrev or_in : Lang PartTree
or_in = lang.◌or◌ (lang.◌giving◌ g.in_uid part.In) or_any

alive_in_uid : Begins g.in_uid []
alive_in_uid = go_one k.In (λ _. alive_uid)

alive_constraint : Begins g.entity_constraint []
alive_constraint =
    alive_right (lang.◌giving◌ g.equal_uid part.Equal) or_in []
    (alive_right (lang.◌giving◌ g.in_uid part.In) or_any [] (alive_right g.type_test (lang.empty part.Any) [] (alive_empty part.Any)))

alive_entity : (variable : TokenKind) → Begins (g.entity_part variable) []
alive_entity variable = go_one variable (λ _. alive_constraint)

abbrev pub read_giving : {A B : Type 0} → Parser A → (A → B) → Parser B
read_giving p f = p >>= (λ x. pure (f x))

starts_equal : Starts g.equal_uid (only k.Equal)
starts_equal = starts_one k.Equal (λ _. g.uid)

starts_in : Starts g.in_uid (only k.In)
starts_in = starts_one k.In (λ _. g.uid)

starts_giving : {A B : Type 0} (L : Lang A) (f : A → B) (ks : Kinds) → Starts L ks → Starts (lang.◌giving◌ L f) ks
starts_giving L f ks s = starts_both L (λ x. lang.empty (f x)) ks s

module _ (D : Levels) where
  in_rule : Rule g.in_uid g.in_uid r.in_uid r.in_uid after_name D
  unfolding r.in_uid
  in_rule = behind k.In after_name D (uid_rule D) alive_uid

  pub equal_rule : Rule g.equal_uid g.equal_uid r.equal_uid r.equal_uid after_name D
  unfolding r.equal_uid
  equal_rule = behind k.Equal after_name D (uid_rule D) alive_uid

  pub giving_rule : {A B : Type 0} (L : Lang A) (p : Parser A) (f : A → B) (ks js : Kinds) → Rule L L p p ks D → within ks js ≡ true → within js js ≡ true
      → Rule (lang.◌giving◌ L f) (lang.◌giving◌ L f) (read_giving p f) (read_giving p f) js D
  giving_rule L p f ks js l kj jj = seq l (λ x. nothing (f x) js D) (λ x. leads_empty (f x) ks js kj) (λ x. alive_empty (f x))

  typed_rule : Rule g.type_test g.type_test r.type_test r.type_test after_part D
  unfolding r.type_test same_kind
  typed_rule =
      behind k.Is after_part D
      (seq (path_rule D)
      (λ p. seq (maybe g.in_uid g.in_uid _ _ (only k.In) after_name after_part D in_rule starts_in refl refl)
      (λ entity. nothing (is_in p entity) after_part D) (λ entity. leads_empty (is_in p entity) after_part after_part refl) (λ entity. alive_empty (is_in p entity)))
      (λ p. leads_both (lang.optional g.in_uid) (λ entity. lang.empty (is_in p entity)) after_name after_part after_part
      (leads_maybe g.in_uid (only k.In) after_name after_part starts_in refl refl)
      (λ entity. leads_empty (is_in p entity) after_part after_part refl))
      (λ p. go (alive_maybe g.in_uid) (λ entity. alive_empty (is_in p entity))))
      (go alive_path (λ p. go (alive_maybe g.in_uid) (λ entity. alive_empty (is_in p entity))))

  abbrev read_or_any : Parser PartTree
  read_or_any = either (only k.Is) r.type_test (pure part.Any)

  abbrev read_or_in : Parser PartTree
  read_or_in = either (only k.In) (read_giving r.in_uid part.In) read_or_any

  or_any_rule : Rule or_any or_any read_or_any read_or_any after_part D
  unfolding same_kind
  or_any_rule = or g.type_test g.type_test (lang.empty part.Any) (lang.empty part.Any) r.type_test r.type_test (pure part.Any) (pure part.Any) (only k.Is) after_part D
      typed_rule (nothing part.Any after_part D) (starts_one k.Is _) (leads_empty part.Any (only k.Is) after_part refl)

  leads_any : (ks : Kinds) → apart (only k.Is) ks ≡ true → within ks after_part ≡ true → Leads or_any ks after_part
  leads_any ks e w = leads_or g.type_test (lang.empty part.Any) ks after_part (leads_one k.Is ks after_part e) (leads_empty part.Any ks after_part w)

  or_in_rule : Rule or_in or_in read_or_in read_or_in after_part D
  unfolding same_kind
  or_in_rule = or (lang.◌giving◌ g.in_uid part.In) (lang.◌giving◌ g.in_uid part.In) or_any or_any (read_giving r.in_uid part.In) (read_giving r.in_uid part.In) read_or_any read_or_any (only k.In) after_part D
      (giving_rule g.in_uid r.in_uid part.In after_name after_part in_rule refl refl) or_any_rule (starts_giving g.in_uid part.In (only k.In) starts_in) (leads_any (only k.In) refl refl)

  constraint_rule : Rule g.entity_constraint g.entity_constraint r.entity_constraint r.entity_constraint after_part D
  unfolding r.entity_constraint same_kind
  constraint_rule =
      or (lang.◌giving◌ g.equal_uid part.Equal) (lang.◌giving◌ g.equal_uid part.Equal) or_in or_in (read_giving r.equal_uid part.Equal) (read_giving r.equal_uid part.Equal) read_or_in read_or_in (only k.Equal) after_part D
      (giving_rule g.equal_uid r.equal_uid part.Equal after_name after_part equal_rule refl refl) or_in_rule (starts_giving g.equal_uid part.Equal (only k.Equal) starts_equal)
      (leads_or (lang.◌giving◌ g.in_uid part.In) or_any (only k.Equal) after_part (leads_first (only k.In) (only k.Equal) after_part starts_in refl) (leads_any (only k.Equal) refl refl))

  pub entity_rule : (variable : TokenKind) → Rule (g.entity_part variable) (g.entity_part variable) (r.entity_part variable) (r.entity_part variable) after_part D
  unfolding r.entity_part
  entity_rule variable = behind variable after_part D constraint_rule alive_constraint

-- ---- action

-- what goes on with a list of uids, or begins one
abbrev after_uids : Kinds
after_uids k.Comma = true
after_uids k.Colons = true
after_uids kind = identifiers kind

abbrev after_action : Kinds
after_action k.Colons = true
after_action k.Equal = true
after_action k.In = true
after_action _ = false

abbrev comma_uid : Lang UidTree
comma_uid = lang.◌>>◌ (lang.one k.Comma) g.uid

abbrev listed : UidTree → Lang (List UidTree)
listed first = lang.◌>>=◌ (lang.many comma_uid) (λ more. lang.empty (first ∷ more))

alive_uids : Begins g.uids []
alive_uids = alive_right (lang.◌>>=◌ g.uid listed) (lang.empty []) [] (alive_empty [])

alive_in_brackets : Begins (lang.◌>>=◌ g.uids (λ found. lang.◌>>◌ (lang.one k.RBracket) (lang.empty (action.InList found)))) []
alive_in_brackets = go alive_uids (λ found. go_one k.RBracket (λ _. alive_empty (action.InList found)))

alive_behind_in : Begins (lang.◌or◌ g.uid_list (lang.◌giving◌ g.uid action.In)) []
alive_behind_in = alive_right g.uid_list (lang.◌giving◌ g.uid action.In) [] (go alive_uid (λ entity. alive_empty (action.In entity)))

abbrev or_any_action : Lang ActionTree
or_any_action = lang.◌or◌ g.in_actions (lang.empty action.Any)

alive_action_constraint : Begins g.action_constraint []
alive_action_constraint =
    alive_right (lang.◌giving◌ g.equal_uid action.Equal) or_any_action [] (alive_right g.in_actions (lang.empty action.Any) [] (alive_empty action.Any))

alive_action : Begins g.action_part []
alive_action = go_one k.Action (λ _. alive_action_constraint)

module _ (D : Levels) where
  comma_rule : Rule comma_uid comma_uid r.comma_uid r.comma_uid after_name D
  unfolding r.comma_uid
  comma_rule = behind k.Comma after_name D (uid_rule D) alive_uid

  uids_rule : Rule g.uids g.uids r.uids r.uids after_uids D
  unfolding r.uids r.rest_of_uids same_kind
  uids_rule =
      or (lang.◌>>=◌ g.uid listed) (lang.◌>>=◌ g.uid listed) (lang.empty []) (lang.empty []) _ _ _ _ identifiers after_uids D
      (seq (uid_rule D)
      (λ first. seq (each comma_uid comma_uid _ _ (only k.Comma) after_name after_uids D comma_rule (starts_one k.Comma (λ _. g.uid)) refl refl refl)
      (λ more. nothing (first ∷ more) after_uids D) (λ more. leads_empty (first ∷ more) after_uids after_uids refl) (λ more. alive_empty (first ∷ more)))
      (λ first. leads_both (lang.many comma_uid) (λ more. lang.empty (first ∷ more)) after_name after_uids after_uids
      (leads_many comma_uid (only k.Comma) after_name after_uids (starts_one k.Comma (λ _. g.uid)) refl refl)
      (λ more. leads_empty (first ∷ more) after_uids after_uids refl))
      (λ first. go (alive_many comma_uid) (λ more. alive_empty (first ∷ more))))
      (nothing [] after_uids D)
      (starts_both g.uid listed identifiers starts_uid)
      (leads_empty [] identifiers after_uids refl)

  list_rule : Rule g.uid_list g.uid_list r.uid_list r.uid_list after_action D
  unfolding r.uid_list same_kind
  list_rule =
      behind k.LBracket after_action D
      (seq uids_rule (λ found. behind k.RBracket after_action D (nothing (action.InList found) after_action D) (alive_empty (action.InList found)))
      (λ found. leads_one k.RBracket after_uids after_action refl) (λ found. go_one k.RBracket (λ _. alive_empty (action.InList found))))
      alive_in_brackets

  in_actions_rule : Rule g.in_actions g.in_actions r.in_actions r.in_actions after_action D
  unfolding r.in_actions r.list_or_uid same_kind
  in_actions_rule =
      behind k.In after_action D
      (or g.uid_list g.uid_list (lang.◌giving◌ g.uid action.In) (lang.◌giving◌ g.uid action.In) r.uid_list r.uid_list (read_giving r.uid action.In) (read_giving r.uid action.In) (only k.LBracket) after_action D
      list_rule (giving_rule D g.uid r.uid action.In after_name after_action (uid_rule D) refl refl)
      (starts_one k.LBracket _)
      (leads_first identifiers (only k.LBracket) after_action starts_uid refl))
      alive_behind_in

  abbrev read_or_any_action : Parser ActionTree
  read_or_any_action = either (only k.In) r.in_actions (pure action.Any)

  or_any_action_rule : Rule or_any_action or_any_action read_or_any_action read_or_any_action after_action D
  unfolding same_kind
  or_any_action_rule = or g.in_actions g.in_actions (lang.empty action.Any) (lang.empty action.Any) r.in_actions r.in_actions (pure action.Any) (pure action.Any) (only k.In) after_action D
      in_actions_rule (nothing action.Any after_action D) (starts_one k.In _) (leads_empty action.Any (only k.In) after_action refl)

  pub action_rule : Rule g.action_part g.action_part r.action_part r.action_part after_action D
  unfolding r.action_part r.action_constraint same_kind
  action_rule =
      behind k.Action after_action D
      (or (lang.◌giving◌ g.equal_uid action.Equal) (lang.◌giving◌ g.equal_uid action.Equal) or_any_action or_any_action (read_giving r.equal_uid action.Equal) (read_giving r.equal_uid action.Equal) read_or_any_action read_or_any_action (only k.Equal) after_action D
      (giving_rule D g.equal_uid r.equal_uid action.Equal after_name after_action (equal_rule D) refl refl) or_any_action_rule (starts_giving g.equal_uid action.Equal (only k.Equal) starts_equal)
      (leads_or g.in_actions (lang.empty action.Any) (only k.Equal) after_action (leads_one k.In (only k.Equal) after_action refl) (leads_empty action.Any (only k.Equal) after_action refl)))
      alive_action_constraint

-- ---- scopes

abbrev scope_made : PartTree → ActionTree → PartTree → Lang ScopeTree
scope_made p a e = lang.empty (record { principal = p; action = a; resource = e })

alive_resource : (p : PartTree) (a : ActionTree) → Begins (lang.◌>>=◌ (g.entity_part k.Resource) (λ e. scope_made p a e)) []
alive_resource p a = go (alive_entity k.Resource) (λ e. alive_empty (record { principal = p; action = a; resource = e }))

alive_action_on : (p : PartTree) → Begins (lang.◌>>=◌ g.action_part (λ a. lang.◌>>◌ (lang.one k.Comma) (lang.◌>>=◌ (g.entity_part k.Resource) (λ e. scope_made p a e)))) []
alive_action_on p = go alive_action (λ a. go_one k.Comma (λ _. alive_resource p a))

pub alive_scope : Begins g.scope []
alive_scope = go (alive_entity k.Principal) (λ p. go_one k.Comma (λ _. alive_action_on p))

pub scope_rule : (D : Levels) → Rule g.scope g.scope r.scope r.scope after_part D
unfolding r.scope same_kind
scope_rule D =
    seq (entity_rule D k.Principal)
    (λ p. behind k.Comma after_part D
    (seq (action_rule D)
    (λ a. behind k.Comma after_part D
    (seq (entity_rule D k.Resource) (λ e. nothing (record { principal = p; action = a; resource = e }) after_part D)
    (λ e. leads_empty (record { principal = p; action = a; resource = e }) after_part after_part refl)
    (λ e. alive_empty (record { principal = p; action = a; resource = e })))
    (alive_resource p a))
    (λ a. leads_one k.Comma after_action after_part refl)
    (λ a. go_one k.Comma (λ _. alive_resource p a)))
    (alive_action_on p))
    (λ p. leads_one k.Comma after_part after_part refl)
    (λ p. go_one k.Comma (λ _. alive_action_on p))
