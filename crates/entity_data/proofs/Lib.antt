mod ApartLemmas
pub mod UidLemmas
