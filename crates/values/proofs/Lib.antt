-- Meant to be imported by the crates above: Records, Unique and Depths, on the parts of values: the entries of a record
-- (Entry), the one list of a set, and that a part is lower than the whole, by which a recursion ends; Halves, on orders.
pub mod Agree
pub mod Compared
pub mod Depths
pub mod Found
pub mod Halves
pub mod Joining
pub mod PathLemmas
pub mod Puts
pub mod Records
pub mod Scanning
pub mod Unique
pub mod Within
pub mod WellFormedLemmas
-- of lower layers
pub use Rattle.extensions.proofs as of_extensions
