-- Whether a file with each name found is sound.
use Rattle.std.proofs.Common.{ℕ, List, sym, subst, inl, inr}
use Rattle.schema_types.specs.Qualified as qualified
use Rattle.schema_types.specs.Qualified.{Qualified}
use Rattle.schema_types.specs.Cedar.{Cedar}
use Rattle.schema_types.specs.Expansions as written
use Rattle.schema_types.specs.Expansions.{Declarations, Declares, IsExpansion}
use Rattle.schema_types.specs.TypeTables.{TypeTable, AreWritten, AreWhole}
use Rattle.schema_types.specs.Outcome.{SomeHasNoExpansion, CommonsRefused, SizesRefused, TypeRefused}
use Rattle.schema_types.specs.Outcome as outcome
use Rattle.schema_types.specs.declared.fault.SchemaFault.{SchemaFault}
use Rattle.schema_types.specs.declared.fault.SchemaFault.TheVariants.{ActionCycle}
use Rattle.schema_reading.specs.Qualifying.{ResolvedSchema}
use Rattle.schema_reading.specs.Laws.{IsShapeOrContext}
use Rattle.schema.specs.Schemas.{SomeActionIsOnCycle, IsSchemaType, HasSmallExpansion, IsSound}
use Rattle.schema.specs.inner.ByNaming.{IsUnsound}
use Rattle.schema.specs.inner.ByNaming as parsed
use Rattle.schema.specs.Schemas as schemas
use Rattle.schema.specs.declared.reading.Types.{Types}
use Rattle.schema.specs.inner.Reading.{AreTypesOf, TypesRefused, EdgesRefused}

-- every common type ends where all are written
pub all_end : (commons : Declarations) (known : TypeTable) → AreWritten commons known → SomeHasNoExpansion commons → ⊥
all_end commons known are endless =
    let at = are.all endless.name endless.type endless.declared in
    let stands = are.table endless.name at.0 at.1 in
    endless.has_no_expansion stands.type stands.is_written

commons_fault : (s : ResolvedSchema) (f : SchemaFault) → CommonsRefused s.commons f → IsUnsound s f
commons_fault s _ (outcome.cycle endless) = parsed.type_cycle endless

pub commons_refused : (s : ResolvedSchema) (f : SchemaFault) → CommonsRefused s.commons f → IsUnsound s f
commons_refused s f h = commons_fault s f h

edges_fault : (s : ResolvedSchema) → (SomeHasNoExpansion s.commons → ⊥) → SomeActionIsOnCycle s → IsUnsound s ActionCycle
edges_fault s ends cycle = parsed.action_cycle ends cycle

pub edges_refused : (s : ResolvedSchema) (f : SchemaFault) → (SomeHasNoExpansion s.commons → ⊥) → EdgesRefused s f → IsUnsound s f
edges_refused s f ends h = subst (λ (g : SchemaFault). IsUnsound s g) (sym h.0) (edges_fault s ends h.1)

declared_of : (commons : Declarations) (q : List ℕ) (t : Cedar) → IsExpansion commons (qualified.common q) t → (r : Qualified) × Declares commons q r
declared_of commons _ _ (written.common q r t d w) = (r, d)

sizes_fault : (s : ResolvedSchema) (f : SchemaFault) → (SomeHasNoExpansion s.commons → ⊥) → (SomeActionIsOnCycle s → ⊥) → SizesRefused s.commons f → IsUnsound s f
sizes_fault s _ ends no_cycle (outcome.large_common large) =
    let declared = declared_of s.commons large.name large.type large.is_written in
    parsed.too_large ends no_cycle (record {
      type = qualified.common large.name;
      whole = large.type;
      is_type = schemas.common large.name declared.0 declared.1;
      is_expansion = large.is_written;
      too_large = large.too_large;
    })

pub sizes_refused : (s : ResolvedSchema) (f : SchemaFault) → (SomeHasNoExpansion s.commons → ⊥) → (SomeActionIsOnCycle s → ⊥) → SizesRefused s.commons f → IsUnsound s f
sizes_refused s f ends no_cycle h = sizes_fault s f ends no_cycle h

type_fault : (s : ResolvedSchema) (r : Qualified) (f : SchemaFault) → (SomeHasNoExpansion s.commons → ⊥) → (SomeActionIsOnCycle s → ⊥) → IsShapeOrContext s r → TypeRefused s.commons r f → IsUnsound s f
type_fault s r _ ends no_cycle is (outcome.large_type large) =
    parsed.too_large ends no_cycle (record {
      type = r;
      whole = large.type;
      is_type = schemas.shape_or_context r is;
      is_expansion = large.is_written;
      too_large = large.large;
    })

pub types_refused : (s : ResolvedSchema) (f : SchemaFault) → (SomeHasNoExpansion s.commons → ⊥) → (SomeActionIsOnCycle s → ⊥) → TypesRefused s.commons s f → IsUnsound s f
types_refused s f ends no_cycle h = type_fault s h.0 f ends no_cycle h.1 h.2

-- each shape and each context was written out
pub records_written : (s : ResolvedSchema) (t : Types) → AreTypesOf s.commons s t → (r : Qualified) → IsShapeOrContext s r → HasSmallExpansion s.commons r
records_written s t are r (inl e) = are.shapes.also e.0 e.1 r e.2
records_written s t are r (inr a) = are.are.also a.0 a.1 a.2.0 a.2.1 r a.2.2

module _ (s : ResolvedSchema) (known : TypeTable) (are : AreWritten s.commons known) (whole : AreWhole s.commons known) (records : (r : Qualified) → IsShapeOrContext s r → HasSmallExpansion s.commons r) where
  stands_written : (r : Qualified) → IsSchemaType s r → HasSmallExpansion s.commons r
  stands_written _ (schemas.common q r d) =
      let at = are.all q r d in
      let it = whole q r d at.0 at.1 in
      (it.0, it.1, it.3)
  stands_written _ (schemas.shape_or_context r is) = records r is

  pub is_sound : (SomeActionIsOnCycle s → ⊥) → IsSound s
  is_sound no_cycle = record { no_cycle = no_cycle; has_small_expansions = stands_written }
