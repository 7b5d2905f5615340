pub mod Counts
pub mod Accounts
pub mod Living
