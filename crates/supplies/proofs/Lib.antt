pub mod Filled
pub mod Filling
pub mod Nexts
