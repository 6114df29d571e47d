-- Forms is meant to be imported by the crates above: induction over core expressions, and the equations of a fold.
pub mod Forms
pub mod FirstPlaces
pub mod Whole
