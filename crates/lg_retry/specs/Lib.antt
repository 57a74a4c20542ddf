pub mod Failures
pub mod Life
