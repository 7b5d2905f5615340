pub mod Acting
pub mod Listing
pub mod Living
