-- Defines when shapes and contexts are records, directly or by the names of common types.
-- Source: Cedar reference guide, "Schema JSON format": `shape`, `context`.
-- Rules of this product: names are followed as far as they are declared; a name that does not resolve is another error.
use Rattle.std.specs.Prelude.{◌≡◌, ◌⊎◌, ℕ, List, Contains, Bool, true, false, Option, Some, None, is_some}
use Rattle.schema_types.specs.Raw as raw
use Rattle.schema_types.specs.Raw.{Raw}
use Rattle.schema_types.specs.Names.{Scope, found, or_entity, built_in}
use Rattle.schema_reading.specs.FileForm.{EntityTypeOf, AppliesToOf, ActionOf, NamespaceOf}
use Rattle.schema_reading.specs.Qualifying.{CommonOf, commons_declared, scope_in}

-- `common_meant s own r` is the full name of the declared common type to which `r` refers; `None` if it refers to none.
-- `r` is a type written in the namespace `own` (`None`: the empty one), and `s` has the tests of the declared names.
abbrev pub common_meant : Scope → Option (List ℕ) → Raw → Option (List ℕ)
common_meant s own raw.text = None
common_meant s own raw.long = None
common_meant s own raw.boolean = None
common_meant s own raw.decimal = None
common_meant s own raw.ipaddr = None
common_meant s own (raw.set r) = None
common_meant s own (raw.record_of rs) = None
common_meant s own (raw.entity w) = None
common_meant s own (raw.common w) = found s.commons own w
common_meant s own (raw.entity_or_common w) = found s.commons own w

-- `is_no_record s own r` tests whether `r`, a type written in the namespace `own`, is of a form other than a record. It
-- is used if `r` does not refer to a declared common type of `s`. For a name that does not resolve, which is another
-- error, the result is false unless the form is `Entity`.
abbrev pub is_no_record : Scope → Option (List ℕ) → Raw → Bool
is_no_record s own raw.text = true
is_no_record s own raw.long = true
is_no_record s own raw.boolean = true
is_no_record s own raw.decimal = true
is_no_record s own raw.ipaddr = true
is_no_record s own (raw.set r) = true
is_no_record s own (raw.record_of rs) = false
is_no_record s own (raw.entity w) = true
is_no_record s own (raw.common w) = false
is_no_record s own (raw.entity_or_common w) = is_some (or_entity (found s.entities own w) (built_in w))

-- `MeansNoRecord ns own r` holds if following the names of common types that the namespaces `ns` declare leads from `r`
-- to a form other than a record; `r` is a type written in the namespace `own`.
pub data MeansNoRecord (ns : List NamespaceOf) : Option (List ℕ) → Raw → Type 0 where
  form : (own : Option (List ℕ)) (r : Raw) → common_meant (scope_in ns) own r ≡ None
      → is_no_record (scope_in ns) own r ≡ true → MeansNoRecord ns own r
  named : (own : Option (List ℕ)) (r : Raw) (c : CommonOf) → common_meant (scope_in ns) own r ≡ Some c.name
      → Contains (commons_declared ns) c → MeansNoRecord ns c.own c.type
      → MeansNoRecord ns own r

-- `HasContext a r` holds if `r` is the context of the action `a`.
abbrev pub HasContext : ActionOf → Raw → Type 0
HasContext a r = (u : AppliesToOf) × (a.applies_to ≡ Some u) × (u.context ≡ Some r)

-- `MustBeRecord n r` holds if `r` must be a record: it is the shape of an entity type, or the context of an action, of
-- the namespace `n`.
abbrev pub MustBeRecord : NamespaceOf → Raw → Type 0
MustBeRecord n r =
    ((e : EntityTypeOf) × Contains n.entity_types e × (e.shape ≡ Some r))
    ⊎ ((a : ActionOf) × Contains n.actions a × HasContext a r)

-- `SomeIsNoRecord ns` holds if some shape or context of the namespaces `ns` means a type that is not a record.
pub record SomeIsNoRecord (ns : List NamespaceOf) : Type 0 where
  pub namespace : NamespaceOf
  pub type : Raw
  pub stated : Contains ns namespace
  pub stands : MustBeRecord namespace type
  pub means : MeansNoRecord ns namespace.name type
