-- Meant to be imported by the crates above: SignedTexts, CanonicalDecimals and CanonicalNetworks, which have the lemmas
-- behind the public laws on texts; lemmas of definitions want them where no law function can be called.
pub mod DecimalTexts
pub mod SignedTexts
pub mod Ranges
pub mod AddressTexts
pub mod CanonicalDecimals
pub mod CanonicalNetworks
pub mod CanonicalGroups
pub mod OneGroups
pub mod GroupTexts
pub mod Lacks
pub mod ReadTexts
pub mod Found
-- of lower layers
pub use Rattle.plain.proofs as of_plain
