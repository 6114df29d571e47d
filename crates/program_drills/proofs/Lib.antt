pub mod Depths
pub mod EndedLines
pub mod ScriptSteps
pub mod Splitting
