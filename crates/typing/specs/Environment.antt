-- Defines the environment that a policy is typed in.
-- Source: Cedar reference guide 4.0, "Policy validation"; cedar-spec, cedar-lean/Cedar/Validation/Types.lean
-- (`TypeEnv`).
use Rattle.std.specs.Prelude.{ℕ, List, Bool}
use Rattle.values.specs.declared.entity_uid.EntityUid.{EntityUid}
use Rattle.typing.specs.Types.{FieldTypes}

-- An `Environment` is one kind of request, with the schema's types of entities.
pub record Environment : Type 0 where
  -- the type of the principal
  pub principal : List ℕ
  -- the action itself
  pub action : EntityUid
  -- the type of the resource
  pub resource : List ℕ
  -- the fields of the action's context
  pub context : FieldTypes
  -- the attributes of the entities of a type; in the environments of a schema, an action type has no attributes
  pub attributes : List ℕ → FieldTypes
  -- whether entities of the first type may have ancestors of the second
  pub may_have_ancestor : List ℕ → List ℕ → Bool
  -- whether the entities of a type are actions
  pub is_action_type : List ℕ → Bool
  -- the ancestors of each action
  pub action_ancestors : EntityUid → List EntityUid
