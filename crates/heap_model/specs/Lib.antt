pub mod Faults
pub mod Held
pub mod Calls
pub mod Growth
pub mod Retention
pub mod Edits
pub mod Examples
