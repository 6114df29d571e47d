pub mod Sending
pub mod FieldValue
