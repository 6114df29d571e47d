pub mod Steps
pub mod Runs
pub mod SiteStores
pub mod Promises
pub mod MainTheorem
pub mod Laws
pub mod Example
pub mod ExamplePremises
