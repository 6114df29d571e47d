mod Heap
mod OnePointer
mod Slots
mod Texts
mod OpenedSites
