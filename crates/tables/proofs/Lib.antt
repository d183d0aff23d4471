pub mod Chunks
pub mod Entries
pub mod Ordering
pub mod SheetRows
pub mod Ticks
