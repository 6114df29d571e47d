-- Defines the views of a type's parts, layer by layer, for types that an expression built and for declared ones.
use Rattle.std.specs.Prelude.{ℕ, suc, zero, List, map, Bool, true, false, Option, Some, None}
use Rattle.std.specs.Borrow.{Bor}
use Rattle.typing.specs.Types as types
use Rattle.typing.specs.Types.{set_type, record_type}
use Rattle.typing.specs.Types.{FieldTypes, no_field_types, field_type, Declared, undeclared, declared_as}
use Rattle.schema_types.specs.CedarViews.{cedar_view, cedar_fields_view}
use Rattle.type_checker.specs.FromSchemas.{static, static_fields}
use Rattle.type_checker.specs.Views.{leaf_view, built_fields, static_view, shared_in, type_sharing}
use Rattle.type_checker.specs.declared.static_type.StaticType.{StaticType}
use Rattle.type_checker.specs.declared.parts.Part.{Part}
use Rattle.type_checker.specs.declared.parts.Part.TheVariants as part
use Rattle.type_checker.specs.declared.parts.Fields.{Fields}
use Rattle.type_checker.specs.declared.parts.Fields.TheVariants as fields
use Rattle.type_checker.specs.declared.parts.TypeKind.{TypeKind}
use Rattle.type_checker.specs.declared.parts.TypeKind.TheVariants as kind
use Rattle.type_checker.specs.declared.parts.FieldPart.{FieldPart}

-- `part_view p` is the static type that the part `p` represents.
abbrev pub part_view : Part → types.StaticType
part_view (part.Built t) = static_view t.now
part_view (part.Declared t) = static (cedar_view t.now)

-- `built_view fs` are the fields of a record type that the fields `fs`, built by an expression, represent.
abbrev pub built_view : List (Bor (List ℕ) × StaticType × Bool) → FieldTypes
built_view fs = built_fields (map (λ f. (f.0, static_view f.1, f.2)) fs)

-- `map_fields es` are the entries `es` of a map from keys to types as the fields of a record type, all of them
-- required.
abbrev pub map_fields : List (Bor (List ℕ) × StaticType) → FieldTypes
map_fields es = built_fields (map (λ e. (e.0, static_view e.1, true)) es)

-- `fields_view fs` are the fields of a record type that the fields `fs` of the code represent.
abbrev pub fields_view : Fields → FieldTypes
fields_view (fields.Built fs) = built_view fs.now
fields_view (fields.Declared fs) = static_fields (cedar_fields_view fs.now)

-- `kind_view k` is the static type that the kind `k`, a type by its outermost layer, represents.
abbrev pub kind_view : TypeKind → types.StaticType
kind_view (kind.Leaf l) = leaf_view l
kind_view (kind.Set p) = set_type (part_view p)
kind_view (kind.Record fs) = record_type (fields_view fs)

-- `fields_count ts` is the number of the fields `ts`.
abbrev pub fields_count : FieldTypes → ℕ
fields_count no_field_types = 0
fields_count (field_type k t r ts) = suc (fields_count ts)

-- `fields_after n ts` are the fields `ts` without the first `n`.
abbrev pub fields_after : ℕ → FieldTypes → FieldTypes
fields_after zero ts = ts
fields_after (suc n) no_field_types = no_field_types
fields_after (suc n) (field_type k t r ts) = fields_after n ts

-- `before o ts` are the field in `o` and then the fields `ts`; no fields if `o` is `None`.
abbrev pub before : Option FieldPart → FieldTypes → FieldTypes
before None ts = no_field_types
before (Some f) ts = field_type f.key.now (part_view f.part) f.required ts

-- `part_shared p` tests whether the part `p` is shared; a declared one is borrowed.
abbrev pub part_shared : Part → Bool
part_shared (part.Built t) = (type_sharing t.now).is_type_shared
part_shared (part.Declared t) = false

-- `has_shared_field k fs` tests whether the fields `fs` of a record type that an expression built have a field `k`
-- whose type is shared.
abbrev pub has_shared_field : List ℕ → List (Bor (List ℕ) × StaticType × Bool) → Bool
has_shared_field k fs = shared_in (map (λ f. (f.0, type_sharing f.1, f.2)) fs) k

-- `found_shared o` tests whether the part in `o`, the result of a look-up, is shared.
abbrev pub found_shared : Option (Part × Bool) → Bool
found_shared None = false
found_shared (Some f) = part_shared f.0

-- `found_view o` is the declaration that the look-up `o` of a key found: its type, and whether it is required;
-- `undeclared` if `o` is `None`.
abbrev pub found_view : Option (Part × Bool) → Declared
found_view None = undeclared
found_view (Some f) = declared_as f.1 (part_view f.0)
