pub mod SecondDecides
