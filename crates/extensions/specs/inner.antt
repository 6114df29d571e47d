pub mod Deciding
pub mod DecidingTexts
pub mod Places
