-- The keys of the types that a schema states ascend.
use Rattle.std.proofs.Common.{◌≡◌, ℕ, List, ◌∷◌, Bool, true, false, Option, Some, None, refl, if◌then◌else◌}
use Rattle.std.specs.Prelude.{Contains}
use Rattle.std.specs.List.Sorted.{IsStrictlySortedBy}
use Rattle.typing.specs.Types.{no_field_types}
use Rattle.typing.specs.Ordered.{IsBefore, IsOrdered, AreOrdered, HasOrderedTypes}
use Rattle.typing.specs.Laws.{IsTransitive}
use Rattle.schema_types.specs.Cedar as cedar
use Rattle.schema_types.specs.Cedar.{Cedar, CedarFields}
use Rattle.schema_types.specs.Ascending.{Ascend, keys_of, KeysAscend, FieldKeysAscend}
use Rattle.entities.specs.schema.Schemas.{EnvironmentOf, StatedSchema, IsSchemaOf}
use Rattle.entities.specs.schema.WellFormed.{AreAttributes, StatedSchemasAreWellFormed}
use Rattle.entities.specs.Entities.{is_action_type}
use Rattle.type_checker.specs.FromSchemas.{static, static_fields, field_types_in, shape_fields, attributes_of}
use Rattle.type_checker.specs.FromSchemas.{typing_environment_of}

-- a key that is below others is below the first
before_fields : (k : List ℕ) (fs : CedarFields) → Ascend (k ∷ keys_of fs) → IsBefore k (static_fields fs)
unfolding IsStrictlySortedBy
before_fields k cedar.no_fields up = tt
before_fields k (cedar.field l t r fs) up = up.0.0

rest_ascends : (k : List ℕ) (ks : List (List ℕ)) → Ascend (k ∷ ks) → Ascend ks
unfolding IsStrictlySortedBy
rest_ascends k ks up = up.1

mutual
  ordered : (t : Cedar) → KeysAscend t → IsOrdered (static t)
  ordered cedar.text up = tt
  ordered cedar.long up = tt
  ordered cedar.boolean up = tt
  ordered cedar.decimal up = tt
  ordered cedar.ipaddr up = tt
  ordered (cedar.set t) up = ordered t up
  ordered (cedar.record_of fs) up = ordered_fields fs up.0 up.1
  ordered (cedar.entity n) up = tt

  ordered_fields : (fs : CedarFields) → Ascend (keys_of fs) → FieldKeysAscend fs → AreOrdered (static_fields fs)
  ordered_fields cedar.no_fields up each = tt
  ordered_fields (cedar.field k t r fs) up each =
      (ordered t each.0, before_fields k fs up, ordered_fields fs (rest_ascends k (keys_of fs) up) each.1)

by_fields : (t : Cedar) → KeysAscend t → AreOrdered (field_types_in t)
by_fields cedar.text up = tt
by_fields cedar.long up = tt
by_fields cedar.boolean up = tt
by_fields cedar.decimal up = tt
by_fields cedar.ipaddr up = tt
by_fields (cedar.set t) up = tt
by_fields (cedar.record_of fs) up = ordered_fields fs up.0 up.1
by_fields (cedar.entity n) up = tt

by_shape : (o : Option Cedar) → ((t : Cedar) → o ≡ Some t → AreAttributes t) → AreOrdered (shape_fields o)
by_shape None shapes = tt
by_shape (Some t) shapes = let known : AreAttributes t = shapes t refl in by_fields t known.ascend

unless_action : (b : Bool) (o : Option Cedar) → AreOrdered (shape_fields o)
    → AreOrdered (if b then no_field_types else shape_fields o)
unless_action true o up = tt
unless_action false o up = up

pub below_transitively : StatedSchemasAreWellFormed → (bytes : List ℕ) (v : StatedSchema) → IsSchemaOf bytes v → (e : EnvironmentOf)
    → IsTransitive (typing_environment_of v e).may_have_ancestor
below_transitively law bytes v stated e l m n = (law bytes v stated).parents_join l m n

pub attributes_are_ordered : StatedSchemasAreWellFormed → (bytes : List ℕ) (v : StatedSchema) → IsSchemaOf bytes v → (n : List ℕ)
    → AreOrdered (attributes_of v n)
attributes_are_ordered law bytes v stated n =
    unless_action (is_action_type n) (v.shape n) (by_shape (v.shape n) ((law bytes v stated).shapes n))

pub types_are_ordered : StatedSchemasAreWellFormed → (bytes : List ℕ) (v : StatedSchema) → IsSchemaOf bytes v → (e : EnvironmentOf)
    → Contains v.environments e → HasOrderedTypes (typing_environment_of v e)
types_are_ordered law bytes v stated e there =
    let formed = law bytes v stated in
    record {
      context = by_fields e.context (formed.contexts e there).ascend;
      attributes = attributes_are_ordered law bytes v stated;
    }
