pub mod Adding
pub mod Spreading
pub mod Uses
pub mod FileLaws
pub mod StatedViews
