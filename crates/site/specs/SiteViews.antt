-- Defines what contracts see of a site: its schema, its name, and its store.
-- Rules of this product: a site has a store of stamped texts, each with its parsed value. Its caches, an index of its
-- policies and the ancestors of its entities, change no answer, and contracts do not see them.
use Rattle.std.specs.Prelude.{◌≡◌, ℕ, List}
use Rattle.site_store.specs.policy_grammar.declared.policy.Policy.{Policy}
use Rattle.site_store.specs.schema.SchemaEntries as kept_schema
use Rattle.site_store.specs.schema.Schemas.{StatedSchema}
use Rattle.site_store.specs.schema.Views.{schema_view}
use Rattle.site_store.specs.entity_data.declared.entity.Entity.{Entity}
use Rattle.site_store.specs.stamped_store.Reading.{AreEntriesRead}
use Rattle.site_store.specs.stamped_store.SiteNames.{IsSiteName}
use Rattle.site_store.specs.stamped_store.Store.{Store, StoreEntries, abstract_store, updates}
use Rattle.sync_messages.specs.sync_format.Updates.{AreInRange, AreValid}
use Rattle.site.specs.Admitted.{IsPolicyUnder, IsEntityUnder}

-- A `SiteView` is a schema, a name, and the entries of a store, each text with its parsed value.
pub record SiteView : Type 0 where
  pub schema : kept_schema.SchemaEntries
  pub name : List ℕ
  pub kept : StoreEntries Policy Entity

-- `schema_of a` is the schema of the site `a`, as a `StatedSchema`.
abbrev pub schema_of : SiteView → StatedSchema
schema_of a = schema_view a.schema

-- `store_in a` is the abstract store of the site `a`: at each name at most one stamped body.
abbrev pub store_in : SiteView → Store
store_in a = abstract_store a.kept

-- `IsSameSite a b` holds if the sites `a` and `b` have the same schema and the same name.
abbrev pub IsSameSite : SiteView → SiteView → Type 0
IsSameSite a b = (b.schema ≡ a.schema) × (b.name ≡ a.name)

-- `IsHeld schema k` holds if each text of the store `k` is parsed under `schema` as the value that is stored with it.
abbrev pub IsHeld : StatedSchema → StoreEntries Policy Entity → Type 0
IsHeld schema k = AreEntriesRead (IsPolicyUnder schema) (IsEntityUnder schema) k

-- `IsSite schema name k` is the invariant of a site of `schema` with the name `name` and the store `k`. Each text of
-- `k` is parsed under `schema` as the value that is stored with it. Each name and stamp of `k` is in its range, and
-- `name` is a site name.
pub record IsSite (schema : StatedSchema) (name : List ℕ) (k : StoreEntries Policy Entity) : Type 0 where
  pub held : IsHeld schema k
  pub in_range : AreInRange (updates (abstract_store k))
  pub named : IsSiteName name

-- `IsValidStore schema s` holds if the names and stamps of the store `s` are in their ranges, and each text can be
-- parsed under `schema` and the name at which it is stored.
pub record IsValidStore (schema : StatedSchema) (s : Store) : Type 0 where
  pub in_range : AreInRange (updates s)
  pub valid : AreValid (IsPolicyUnder schema) (IsEntityUnder schema) (updates s)
