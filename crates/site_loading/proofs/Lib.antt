pub mod PutLemmas
pub mod LoadLemmas
