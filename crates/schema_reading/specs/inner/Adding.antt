-- Defines how the declarations of namespaces are added to the declared names.
use Rattle.std.specs.Prelude.{◌≡◌, ◌||◌, ℕ, List, map, Bool, String}
use Rattle.std.specs.Ordering.{is_eq}
use Rattle.std.specs.List.{list_any}
use Rattle.std.specs.Str.{bytes_eq}
use Rattle.std.specs.BTreeSet.{BTreeSet, contains, contains_text}
use Rattle.std.specs.declared.alloc.Global.{Global}
use Rattle.values.specs.declared.entity_uid.EntityUid.{EntityUid}
use Rattle.values.specs.Names.{uid_cmp}
use Rattle.schema_types.specs.declared.names.Names.{Names}
use Rattle.schema_types.specs.Names.{full_name}
use Rattle.schema_types.specs.NamesViews.{scope_of, is_action_of}
use Rattle.schema_reading.specs.FileForm.{NamespaceOf}
use Rattle.schema_reading.specs.Qualifying.{CommonOf, common_in, commons_declared}
use Rattle.schema_types.specs.Actions.{action_type, action_uid}
use Rattle.schema_reading.specs.Qualifying.{entity_types_declared, actions_declared, scope_in, is_action_in}

-- `has_name s q` tests whether the set `s` has the name `q`.
abbrev pub has_name : BTreeSet (String Global) → List ℕ → Bool
has_name s q = contains_text s q

-- `has_uid s u` tests whether the set `s` has the uid `u`.
abbrev pub has_uid : BTreeSet EntityUid → EntityUid → Bool
has_uid s u = contains uid_cmp s u

-- `IsUnionWith has test old new` holds if the set `new` has exactly the members of `old` and the values for which
-- `test` is true; `has` tests for membership.
abbrev pub IsUnionWith : {S X : Type 0} → (S → X → Bool) → (X → Bool) → S → S → Type 0
IsUnionWith {X = X} has test old new = (q : X) → has new q ≡ (test q || has old q)

-- `any_common cs q` tests whether one of the common types `cs` has the full name `q`.
abbrev pub any_common : List CommonOf → List ℕ → Bool
any_common cs q = list_any (λ c. bytes_eq c.name q) cs

-- `any_name ns q` tests whether `q` is one of the names `ns`.
abbrev pub any_name : List (List ℕ) → List ℕ → Bool
any_name ns q = list_any (λ e. bytes_eq e q) ns

-- `any_uid us u` tests whether `u` is one of the uids `us`.
abbrev pub any_uid : List EntityUid → EntityUid → Bool
any_uid us u = list_any (λ a. is_eq (uid_cmp a u)) us

-- `AddsNamespace n old new` holds if `new` has exactly the names of `old` and those that the namespace `n` declares.
pub record AddsNamespace (n : NamespaceOf) (old new : Names) : Type 0 where
  pub commons : IsUnionWith has_name (any_common (map (λ c. common_in n.name c) n.commons)) old.commons new.commons
  pub entities : IsUnionWith has_name
      (any_name (map (λ e. full_name n.name e.name) n.entity_types)) old.entities new.entities
  pub actions : IsUnionWith has_uid (any_uid (map (λ a. action_uid (action_type n.name) a.id) n.actions)) old.actions
      new.actions

-- `AddsAll ns old new` holds if `new` has exactly the names of `old` and those that the namespaces `ns` declare.
pub record AddsAll (ns : List NamespaceOf) (old new : Names) : Type 0 where
  pub commons : IsUnionWith has_name (any_common (commons_declared ns)) old.commons new.commons
  pub entities : IsUnionWith has_name (any_name (entity_types_declared ns)) old.entities new.entities
  pub actions : IsUnionWith has_uid (any_uid (actions_declared ns)) old.actions new.actions

-- `Declares ns names` holds if `names` has exactly the names that the namespaces `ns` declare.
pub record Declares (ns : List NamespaceOf) (names : Names) : Type 0 where
  pub scope : scope_of names ≡ scope_in ns
  pub actions : is_action_of names ≡ is_action_in ns
