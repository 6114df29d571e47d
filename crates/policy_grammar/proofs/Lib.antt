pub mod Marking
pub mod Unread
pub mod Lists
pub mod Doubtful
pub mod Naming
pub mod Plainly
pub mod Joining
pub mod Sizes
pub mod Telling
pub mod Refusing
pub mod Cores
pub mod Readings
pub mod Differing
pub mod Answering
mod Unescaped
pub mod Cutting
pub mod Splitting
pub mod Alone
pub mod Endless
pub mod Counting
pub mod Alike
pub mod Deriving
mod Kin
mod Forms
mod FileReadings
mod Scopes
mod FileTexts
-- of this layer
pub use Rattle.grammar_desugaring.proofs as of_grammar_desugaring
