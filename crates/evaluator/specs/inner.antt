pub mod Computing
pub mod Meanings
