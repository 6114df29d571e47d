-- Defines the static type that a declared type represents, where the declared type is given by its outermost layer.
use Rattle.typing.specs.Types as types
use Rattle.typing.specs.Types.{boolean_type, long_type, text_type, entity_type, set_type, record_type}
use Rattle.typing.specs.Types.{decimal_type, ipaddr_type}
use Rattle.schema_types.specs.CedarViews.{cedar_view, cedar_fields_view}
use Rattle.type_checker.specs.FromSchemas.{static, static_fields}
use Rattle.type_checker.specs.declared.same_types.Layer.{Layer}
use Rattle.type_checker.specs.declared.same_types.Layer.TheVariants as layer

-- `layer_view l` is the static type with the outermost layer `l`.
abbrev pub layer_view : Layer → types.StaticType
layer_view layer.Text = text_type
layer_view layer.Long = long_type
layer_view layer.Boolean = boolean_type
layer_view layer.Decimal = decimal_type
layer_view layer.Ipaddr = ipaddr_type
layer_view (layer.Set t) = set_type (static (cedar_view t.now))
layer_view (layer.Record fs) = record_type (static_fields (cedar_fields_view fs.now))
layer_view (layer.Entity n) = entity_type n.now
