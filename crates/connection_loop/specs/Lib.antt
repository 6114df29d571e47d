pub mod Acts
pub mod Happenings
pub mod Phases
pub mod Turns
pub mod Serving
pub mod inner
