-- Defines the orders by which a binary search finds the environments of an action or of a request.
use Rattle.std.specs.Prelude.{◌≡◌, ◌≤◌, Bool, Option, Some, None, if◌then◌else◌}
use Rattle.std.specs.Ordering.{ordering_index, is_eq}
use Rattle.std.specs.declared.cmp.Ordering.{Ordering}
use Rattle.std.specs.declared.cmp.Ordering.TheVariants.{Less}
use Rattle.values.specs.declared.entity_uid.EntityUid.{EntityUid}
use Rattle.values.specs.Names.{uid_cmp}
use Rattle.schema.specs.declared.parts.EnvironmentKey.{EnvironmentKey}
use Rattle.schema.specs.Schemas.{EnvironmentOf, place_cmp}
use Rattle.schema_types.specs.Cedar.{Cedar}
use Rattle.entities.specs.declared.requests.Asked.{Asked}

-- `context_if passes o` is the type of the context of the environment in `o` if `passes` accepts the environment's
-- place; `None` if not, or if `o` is `None`.
abbrev pub context_if : (EnvironmentKey → Bool) → Option EnvironmentOf → Option Cedar
context_if passes None = None
context_if passes (Some e) = if passes e.place then Some e.context else None

-- `IsMonotone order` holds if, over ascending places, the result of `order` ascends: less, then equal, then greater.
-- Here `order` compares a place with the places that are sought.
abbrev pub IsMonotone : (EnvironmentKey → Ordering) → Type 0
IsMonotone order = (p q : EnvironmentKey) → place_cmp p q ≡ Less → ordering_index (order p) ≤ ordering_index (order q)

-- `AreFoundBy order passes` holds if `passes` accepts exactly the places for which `order` gives equal, and `order`
-- ascends (`IsMonotone`), so that these places are consecutive.
pub record AreFoundBy (order : EnvironmentKey → Ordering) (passes : EnvironmentKey → Bool) : Type 0 where
  pub same : (p : EnvironmentKey) → passes p ≡ is_eq (order p)
  pub rises : IsMonotone order

-- `order_of_action action place` compares the action of `place` with `action`.
abbrev pub order_of_action : EntityUid → EnvironmentKey → Ordering
order_of_action action place = uid_cmp place.action action

-- `place_asked asked` is the place of the environment of the request `asked`.
abbrev pub place_asked : Asked → EnvironmentKey
place_asked asked =
    record { action = asked.action; principal = asked.principal.type_name; resource = asked.resource.type_name }

-- `order_of_asked asked place` compares `place` with the place of the request `asked`.
abbrev pub order_of_asked : Asked → EnvironmentKey → Ordering
order_of_asked asked place = place_cmp place (place_asked asked)
