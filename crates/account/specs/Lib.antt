pub mod Lives
pub mod Account
