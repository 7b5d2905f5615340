pub mod Faults
pub mod Bytes
pub mod Codecs
pub mod Codings
pub mod Digits
