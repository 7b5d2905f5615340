pub mod Closed
pub mod Closing
pub mod Kept
