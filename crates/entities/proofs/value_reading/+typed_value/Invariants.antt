use Rattle.std.proofs.Common.{◌≡◌, drop}
use Rattle.serde_json.specs.View.{items_view, members_view}
use Rattle.schema_types.specs.CedarViews.{cedar_view, cedar_fields_view}
use Rattle.entities.specs.Typing.{typed_items, typed_members}
use Rattle.entities.proofs.Walk.{with_front, Ordered}
use Rattle.entities.proofs.value_reading.+typed_value.Given as goal

abbrev pub invariant-typed_items-loop-item : goal.invariant-typed_items-loop-item
invariant-typed_items-loop-item l =
    typed_items (cedar_view l.ty) (items_view l.items.items) ≡ with_front l.values.items (typed_items (cedar_view l.ty) (items_view (drop l.item-index l.item-items)))

abbrev pub invariant-typed_members-loop-key : goal.invariant-typed_members-loop-key
invariant-typed_members-loop-key l =
    (typed_members (cedar_fields_view l.fields) (members_view l.members.entries) ≡ with_front l.record (typed_members (cedar_fields_view l.rest) (members_view l.key-iterator)))
    × Ordered l.record l.key-iterator
