pub mod Holding
pub mod Pushing
pub mod Popping
pub mod Extending
pub mod Retaining
pub mod Editing
pub mod Keeping
