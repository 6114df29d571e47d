pub mod InitialUpdates
pub mod ExchangeEvents
pub mod Served
pub mod WrittenTexts
pub mod FileReads
