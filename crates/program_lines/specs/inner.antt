pub mod Known
pub mod NoSuchValue
pub mod ClapErrors
