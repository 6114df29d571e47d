use Rattle.std.proofs.Common.{◌≡◌, ◌++◌, drop}
use Rattle.std.specs.BTreeMap.{get_by_text}
use Rattle.schema_types.specs.QualifiedViews.{qualified_fields_view}
use Rattle.schema_types.specs.inner.Order.{fields_name}
use Rattle.schema_types.proofs.order.+add_named.Given as goal

abbrev pub invariant-add_all_named-loop-field : goal.invariant-add_all_named-loop-field
invariant-add_all_named-loop-field l =
    l.fn.found.items ++ fields_name (λ q. get_by_text l.places q) (qualified_fields_view l.fields.items)
    ≡ l.found.items ++ fields_name (λ q. get_by_text l.places q) (qualified_fields_view (drop l.field-index l.field-items))
