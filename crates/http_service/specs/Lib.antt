pub mod inner
pub mod Routes
pub mod LogLines
pub mod OneLine
pub mod RequestReplies
pub mod Lines
pub mod Streams
pub mod Serving
pub mod Together
pub mod AskedInputs
-- of this layer
pub use Rattle.http_replies.specs as http_replies
-- of lower layers
pub use Rattle.http_replies.specs.site
pub use Rattle.http_replies.specs.sync_format
pub use Rattle.http_replies.specs.sync_messages
