pub mod IndexUpdating
pub mod Updating
pub mod Worlds
