pub mod Like
pub mod LikeTest
pub mod Operators
pub mod Size
