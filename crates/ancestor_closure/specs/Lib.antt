pub mod Lists
pub mod inner
pub mod ClosedMeaning
pub mod CacheOf
-- of this layer
pub use Rattle.ancestor_search.specs as ancestor_search
