pub mod Spans
pub mod Cycles
pub mod LookUps
pub mod Places
pub mod SchemaEntries
pub mod Outcomes
pub mod Agreement
pub mod ObjectKeys
pub mod ObjectParts
pub mod StatedTypes
pub mod StatedFiles
pub mod NamesResolved
pub mod NoRecords
pub mod Schemas
pub mod Laws
pub mod Views
pub mod WellFormed
pub mod inner
-- of this layer
pub use Rattle.schema_reading.specs as schema_reading
