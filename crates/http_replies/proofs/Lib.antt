pub mod CallSteps
pub mod LineLemmas
-- of lower layers
pub use Rattle.site.proofs as of_site
