pub mod ResolvedViews
pub mod Laws
pub mod Naming
pub mod Qualifying
pub mod Records
pub mod inner
pub mod DistinctNames
pub mod FileForm
