mod Booleans
mod CommonFields
mod EqualRow
mod FieldLists
mod FieldPlaces
mod JoinedFields
mod Listed
mod OrderedFields
mod OrderedTypes
mod RecordFields
mod SameFields
mod Weighing
pub mod AskedLemmas
pub mod Carrying
pub mod Each
pub mod JoiningLemmas
pub mod Learning
pub mod Members
pub mod Repeating
pub mod Settling
pub mod Sides
