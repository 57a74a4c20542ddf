pub mod Canonical
pub mod Capped
pub mod Escapes
pub mod Fields
pub mod Parts
pub mod Text
pub mod Tree
