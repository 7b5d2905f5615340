pub mod Moves
pub mod Sifts
pub mod Rebuilds
pub mod Heaps
pub mod Checks
pub mod Laws
