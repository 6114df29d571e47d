pub mod BlamedExpressions
pub mod Codes
pub mod Conforming
pub mod Environment
pub mod Example
pub mod Faults
pub mod Judgement
pub mod Laws
pub mod Gained
pub mod Literals
pub mod Membership
pub mod Ordered
pub mod PathLaws
pub mod Places
pub mod Rows
pub mod Types
pub mod Typing
-- of lower layers
pub use Rattle.evaluator.specs as evaluator
pub use Rattle.evaluator.specs.ancestor_search
