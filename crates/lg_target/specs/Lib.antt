pub mod Naming
pub mod Target
pub mod Begin
