pub mod AddressText
pub mod Decided
pub mod DecimalText
pub mod Network
pub mod NetworkText
pub mod Order
pub mod TextsDecided
pub mod inner
-- of lower layers
pub use Rattle.plain.specs as plain
