pub mod Counts
pub mod Messages
pub mod Merges
pub mod Outcomes
pub mod inner
pub mod Requests
pub mod Exchanges
pub mod Pulls
-- of lower layers
pub use Rattle.http_streams.specs as http_streams
pub use Rattle.sync_messages.specs.sync_format
