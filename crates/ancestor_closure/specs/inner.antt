pub mod OneChange
pub mod WholeGraph
pub mod Placing
