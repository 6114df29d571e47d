use Rattle.std.proofs.Common.{◌≡◌, drop}
use Rattle.serde_json.specs.View.{items_view, members_view}
use Rattle.schema_types.specs.CedarViews.{cedar_view, cedar_fields_view}
use Rattle.explanations.specs.inner.FoundPaths.{item_path, member_path}
use Rattle.explanations.proofs.value_search.+find.Given as goal

abbrev pub invariant-find_item-loop-index : goal.invariant-find_item-loop-index
invariant-find_item-loop-index l =
    item_path (cedar_view l.ty) 0 (items_view l.items.items) ≡ item_path (cedar_view l.ty) l.index (items_view (drop l.index l.item-items))

abbrev pub invariant-find_in_members-loop-key : goal.invariant-find_in_members-loop-key
invariant-find_in_members-loop-key l =
    member_path (cedar_fields_view l.fields) (members_view l.members.entries) ≡ member_path (cedar_fields_view l.fields) (members_view l.key-iterator)
