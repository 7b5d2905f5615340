pub mod Heaps
pub mod Edits
