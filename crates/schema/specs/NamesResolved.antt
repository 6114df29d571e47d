-- Defines which declaration each name in a schema file means, the file with resolved names, and the names that mean
-- nothing.
-- Source: Cedar reference guide 4.0, "Schema JSON format": namespaces, `EntityOrCommon`, `memberOfTypes`, `memberOf`,
-- `appliesTo`.
-- Rules of this product: a name without `::` is looked up in the namespace that uses it, then in the empty one; for an
-- `EntityOrCommon` a common type of either namespace takes precedence over an entity type, and an entity type over a
-- primitive or an extension type; an action of the empty namespace has the type `Action`, one of a namespace NS the
-- type `NS::Action`; a member of `memberOf` without a type means an action of the same namespace; a name that means
-- nothing is the error `UnknownName` (code 22).
use Prim.Native.Char.{code}
use Rattle.std.specs.Prelude.{◌≡◌, ℕ, List, Bool, Option, Some, None, Contains, codes}
use Rattle.std.specs.List.{AllZip}
use Rattle.values.specs.declared.entity_uid.EntityUid.{EntityUid}
use Rattle.schema_types.specs.Raw as raw
use Rattle.schema_types.specs.Raw.{Raw, RawFields}
use Rattle.schema_types.specs.Qualified as qualified
use Rattle.schema_types.specs.Qualified.{Qualified, QualifiedFields}
use Rattle.schema_types.specs.Names.{full_name}
use Rattle.schema_types.specs.Actions.{action_type, action_uid}
use Rattle.schema_types.specs.declared.fault.SchemaFault.{SchemaFault}
use Rattle.schema_types.specs.declared.fault.SchemaFault.TheVariants.{UnknownName}
use Rattle.schema_reading.specs.FileForm.{EntityTypeOf, AppliesToOf, ActionOf, NamespaceOf}
use Rattle.schema_reading.specs.declared.stated.StatedParent.{StatedParent}
use Rattle.schema_reading.specs.Qualifying.{ResolvedEntityType, ResolvedAppliesTo, ResolvedAction, ResolvedSchema}
use Rattle.schema_reading.specs.Qualifying.{together}

-- ---- declarations

-- `IsCommon ns q` holds if one of the namespaces `ns` declares a common type with the full name `q`. In this file `ns`
-- are all namespaces of a schema, and `own` is the name of one of them, `None` for the empty one.
abbrev pub IsCommon : List NamespaceOf → List ℕ → Type 0
IsCommon ns q =
    (n : NamespaceOf) × Contains ns n × ((c : List ℕ × Raw) × Contains n.commons c × (full_name n.name c.0 ≡ q))

-- `IsEntityType ns q` holds if one of `ns` declares an entity type with the full name `q`.
abbrev pub IsEntityType : List NamespaceOf → List ℕ → Type 0
IsEntityType ns q =
    (n : NamespaceOf) × Contains ns n × ((e : EntityTypeOf) × Contains n.entity_types e × (full_name n.name e.name ≡ q))

-- `IsAction ns u` holds if one of `ns` declares the action `u`.
abbrev pub IsAction : List NamespaceOf → EntityUid → Type 0
IsAction ns u =
    (n : NamespaceOf) × Contains ns n
    × ((a : ActionOf) × Contains n.actions a × (action_uid (action_type n.name) a.id ≡ u))

-- ---- names

-- `HasNamespace w` holds if the name `w` contains a namespace: it has a `:`.
abbrev pub HasNamespace : List ℕ → Type 0
HasNamespace w = Contains w (code ":")

-- `Means IsDeclared own w q` holds if the name `w`, used in the namespace `own`, means the full name `q`, which is
-- declared (`IsDeclared`): `w` itself if it contains a namespace; otherwise the full name of `w` in `own` if that is
-- declared, else `w` in the empty namespace.
pub data Means (IsDeclared : List ℕ → Type 0) (own : Option (List ℕ)) (w : List ℕ) : List ℕ → Type 0 where
  whole : HasNamespace w → IsDeclared w → Means IsDeclared own w w
  in_own : (HasNamespace w → ⊥) → IsDeclared (full_name own w) → Means IsDeclared own w (full_name own w)
  in_empty : (HasNamespace w → ⊥) → (IsDeclared (full_name own w) → ⊥) → IsDeclared w → Means IsDeclared own w w

-- `MeansNone IsDeclared own w` holds if the name `w`, used in the namespace `own`, means nothing that is declared
-- (`IsDeclared`).
abbrev pub MeansNone : (List ℕ → Type 0) → Option (List ℕ) → List ℕ → Type 0
MeansNone IsDeclared own w = (q : List ℕ) → Means IsDeclared own w q → ⊥

-- `MeansAction ns own p u` holds if the member `p` of `memberOf`, in the namespace `own`, means the action `u`, which
-- is declared.
pub data MeansAction (ns : List NamespaceOf) (own : Option (List ℕ)) (p : StatedParent) : EntityUid → Type 0 where
  untyped : p.type_name ≡ None → IsAction ns (action_uid (action_type own) p.id)
      → MeansAction ns own p (action_uid (action_type own) p.id)
  typed : (w t : List ℕ) → p.type_name ≡ Some w → Means (λ name. IsAction ns (action_uid name p.id)) own w t
      → MeansAction ns own p (action_uid t p.id)

-- `IsPrimitive w t` holds if the word `w` names the primitive or extension type `t`.
pub data IsPrimitive : List ℕ → Qualified → Type 0 where
  of_string : IsPrimitive (codes "String") qualified.text
  of_long : IsPrimitive (codes "Long") qualified.long
  of_boolean : IsPrimitive (codes "Boolean") qualified.boolean
  of_bool : IsPrimitive (codes "Bool") qualified.boolean
  of_ipaddr : IsPrimitive (codes "ipaddr") qualified.ipaddr
  of_decimal : IsPrimitive (codes "decimal") qualified.decimal

-- `MeansEither ns own w t` holds if the name `w` of an `EntityOrCommon` means the type `t`: a common type, else an
-- entity type, else a primitive or an extension type.
pub data MeansEither (ns : List NamespaceOf) (own : Option (List ℕ)) (w : List ℕ) : Qualified → Type 0 where
  common : (q : List ℕ) → Means (IsCommon ns) own w q → MeansEither ns own w (qualified.common q)
  entity : (q : List ℕ) → MeansNone (IsCommon ns) own w → Means (IsEntityType ns) own w q
      → MeansEither ns own w (qualified.entity q)
  primitive : (t : Qualified) → MeansNone (IsCommon ns) own w → MeansNone (IsEntityType ns) own w → IsPrimitive w t
      → MeansEither ns own w t

-- ---- types

mutual
  -- `ResolvesType ns own r t` holds if `t` is the type `r`, of the namespace `own`, with its names resolved.
  pub data ResolvesType (ns : List NamespaceOf) (own : Option (List ℕ)) : Raw → Qualified → Type 0 where
    text : ResolvesType ns own raw.text qualified.text
    long : ResolvesType ns own raw.long qualified.long
    boolean : ResolvesType ns own raw.boolean qualified.boolean
    decimal : ResolvesType ns own raw.decimal qualified.decimal
    ipaddr : ResolvesType ns own raw.ipaddr qualified.ipaddr
    set : (r : Raw) (t : Qualified) → ResolvesType ns own r t → ResolvesType ns own (raw.set r) (qualified.set t)
    record_of : (rs : RawFields) (ts : QualifiedFields) → ResolvesFields ns own rs ts
        → ResolvesType ns own (raw.record_of rs) (qualified.record_of ts)
    entity : (w q : List ℕ) → Means (IsEntityType ns) own w q → ResolvesType ns own (raw.entity w) (qualified.entity q)
    common : (w q : List ℕ) → Means (IsCommon ns) own w q → ResolvesType ns own (raw.common w) (qualified.common q)
    either : (w : List ℕ) (t : Qualified) → MeansEither ns own w t → ResolvesType ns own (raw.entity_or_common w) t

  -- `ResolvesFields ns own rs ts` holds if `ts` are the attributes `rs` with the names in their types resolved.
  pub data ResolvesFields (ns : List NamespaceOf) (own : Option (List ℕ)) : RawFields → QualifiedFields → Type 0 where
    no_fields : ResolvesFields ns own raw.no_fields qualified.no_fields
    field : (key : List ℕ) (r : Raw) (t : Qualified) (required : Bool) (rs : RawFields) (ts : QualifiedFields)
        → ResolvesType ns own r t → ResolvesFields ns own rs ts
        → ResolvesFields ns own (raw.field key r required rs) (qualified.field key t required ts)

mutual
  -- `HasUnknown ns own r` holds if some name in the type `r`, of the namespace `own`, means nothing.
  pub data HasUnknown (ns : List NamespaceOf) (own : Option (List ℕ)) : Raw → Type 0 where
    in_set : (r : Raw) → HasUnknown ns own r → HasUnknown ns own (raw.set r)
    in_record : (rs : RawFields) → SomeFieldHasUnknown ns own rs → HasUnknown ns own (raw.record_of rs)
    no_entity : (w : List ℕ) → MeansNone (IsEntityType ns) own w → HasUnknown ns own (raw.entity w)
    no_common : (w : List ℕ) → MeansNone (IsCommon ns) own w → HasUnknown ns own (raw.common w)
    neither : (w : List ℕ) → ((t : Qualified) → MeansEither ns own w t → ⊥)
        → HasUnknown ns own (raw.entity_or_common w)

  -- `SomeFieldHasUnknown ns own rs` holds if some name in the type of one of the attributes `rs` means nothing.
  pub data SomeFieldHasUnknown (ns : List NamespaceOf) (own : Option (List ℕ)) : RawFields → Type 0 where
    in_first : (key : List ℕ) (r : Raw) (required : Bool) (rs : RawFields) → HasUnknown ns own r
        → SomeFieldHasUnknown ns own (raw.field key r required rs)
    in_later : (key : List ℕ) (r : Raw) (required : Bool) (rs : RawFields) → SomeFieldHasUnknown ns own rs
        → SomeFieldHasUnknown ns own (raw.field key r required rs)

-- ---- files

-- `BothOrNeither R o p` holds if `o` and `p` have values that `R` relates, or neither has one.
pub data BothOrNeither {A B : Type 0} (R : A → B → Type 0) : Option A → Option B → Type 0 where
  both : (a : A) (b : B) → R a b → BothOrNeither R (Some a) (Some b)
  neither : BothOrNeither R None None

-- `ResolvesCommon ns own c d` holds if `d` is the common type `c`, of the namespace `own`, with its names resolved.
pub record ResolvesCommon (ns : List NamespaceOf) (own : Option (List ℕ)) (c : List ℕ × Raw) (d : List ℕ × Qualified)
    : Type 0 where
  pub name : d.0 ≡ full_name own c.0
  pub type : ResolvesType ns own c.1 d.1

-- `ResolvesEntityType ns own e f` holds if `f` is the entity type `e`, of the namespace `own`, with its names resolved.
pub record ResolvesEntityType (ns : List NamespaceOf) (own : Option (List ℕ)) (e : EntityTypeOf)
    (f : ResolvedEntityType) : Type 0 where
  pub name : f.name ≡ full_name own e.name
  pub parents : AllZip (Means (IsEntityType ns) own) e.parents f.parents
  pub shape : BothOrNeither (ResolvesType ns own) e.shape f.shape

-- `ResolvesAppliesTo ns own u v` holds if `v` is `u`, what an action of the namespace `own` applies to, with its names
-- resolved.
pub record ResolvesAppliesTo (ns : List NamespaceOf) (own : Option (List ℕ)) (u : AppliesToOf) (v : ResolvedAppliesTo)
    : Type 0 where
  pub principals : AllZip (Means (IsEntityType ns) own) u.principals v.principals
  pub resources : AllZip (Means (IsEntityType ns) own) u.resources v.resources
  pub context : BothOrNeither (ResolvesType ns own) u.context v.context

-- `ResolvesAction ns own a b` holds if `b` is the action `a`, of the namespace `own`, with its names resolved.
pub record ResolvesAction (ns : List NamespaceOf) (own : Option (List ℕ)) (a : ActionOf) (b : ResolvedAction) : Type 0
  where
    pub uid : b.uid ≡ action_uid (action_type own) a.id
    pub parents : AllZip (MeansAction ns own) a.parents b.parents
    pub applies_to : BothOrNeither (ResolvesAppliesTo ns own) a.applies_to b.applies_to

-- `ResolvesNamespace ns n s` holds if `s` has the declarations of the namespace `n`, one of `ns`, with their names
-- resolved.
pub record ResolvesNamespace (ns : List NamespaceOf) (n : NamespaceOf) (s : ResolvedSchema) : Type 0 where
  pub commons : AllZip (ResolvesCommon ns n.name) n.commons s.commons
  pub entity_types : AllZip (ResolvesEntityType ns n.name) n.entity_types s.entity_types
  pub actions : AllZip (ResolvesAction ns n.name) n.actions s.actions

-- `ResolvesFile ns s` holds if `s` has the declarations of all of `ns`, in order, with their names resolved.
pub record ResolvesFile (ns : List NamespaceOf) (s : ResolvedSchema) : Type 0 where
  pub parts : List ResolvedSchema
  pub resolved : AllZip (ResolvesNamespace ns) ns parts
  pub all : together parts ≡ s

-- ---- names that mean nothing

-- `AppliesToHasUnknown ns own u` holds if a name in `u`, what an action of the namespace `own` applies to, means
-- nothing.
pub data AppliesToHasUnknown (ns : List NamespaceOf) (own : Option (List ℕ)) (u : AppliesToOf) : Type 0 where
  in_principals : (w : List ℕ) → Contains u.principals w → MeansNone (IsEntityType ns) own w
      → AppliesToHasUnknown ns own u
  in_resources : (w : List ℕ) → Contains u.resources w → MeansNone (IsEntityType ns) own w
      → AppliesToHasUnknown ns own u
  in_context : (r : Raw) → u.context ≡ Some r → HasUnknown ns own r → AppliesToHasUnknown ns own u

-- `EntityTypeHasUnknown ns own e` holds if a name in the entity type `e`, of the namespace `own`, means nothing.
pub data EntityTypeHasUnknown (ns : List NamespaceOf) (own : Option (List ℕ)) (e : EntityTypeOf) : Type 0 where
  in_parents : (w : List ℕ) → Contains e.parents w → MeansNone (IsEntityType ns) own w → EntityTypeHasUnknown ns own e
  in_shape : (r : Raw) → e.shape ≡ Some r → HasUnknown ns own r → EntityTypeHasUnknown ns own e

-- `ActionHasUnknown ns own a` holds if a name in the action `a`, of the namespace `own`, means nothing.
pub data ActionHasUnknown (ns : List NamespaceOf) (own : Option (List ℕ)) (a : ActionOf) : Type 0 where
  in_parents : (p : StatedParent) → Contains a.parents p → ((u : EntityUid) → MeansAction ns own p u → ⊥)
      → ActionHasUnknown ns own a
  in_use : (u : AppliesToOf) → a.applies_to ≡ Some u → AppliesToHasUnknown ns own u → ActionHasUnknown ns own a

-- `NamespaceHasUnknown ns n` holds if a name in the namespace `n` means nothing that the namespaces `ns` declare.
pub data NamespaceHasUnknown (ns : List NamespaceOf) (n : NamespaceOf) : Type 0 where
  in_common : (c : List ℕ × Raw) → Contains n.commons c → HasUnknown ns n.name c.1 → NamespaceHasUnknown ns n
  in_entity_type : (e : EntityTypeOf) → Contains n.entity_types e → EntityTypeHasUnknown ns n.name e
      → NamespaceHasUnknown ns n
  in_action : (a : ActionOf) → Contains n.actions a → ActionHasUnknown ns n.name a → NamespaceHasUnknown ns n

-- `FileHasUnknown ns` holds if a name in one of the namespaces `ns` means nothing that these declare.
abbrev pub FileHasUnknown : List NamespaceOf → Type 0
FileHasUnknown ns = (n : NamespaceOf) × Contains ns n × NamespaceHasUnknown ns n

-- `RefusesNames ns fault` holds if a name in one of the namespaces `ns` means nothing, and `fault` is `UnknownName`.
abbrev pub RefusesNames : List NamespaceOf → SchemaFault → Type 0
RefusesNames ns fault = (fault ≡ UnknownName) × FileHasUnknown ns
