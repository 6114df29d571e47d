mod StatedLemmas
mod PutLemmas
mod ActionLemmas
mod AlikeLemmas
mod ApartLemmas
