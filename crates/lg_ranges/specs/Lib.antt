pub mod Bounds
pub mod Faults
pub mod Parameter
pub mod Points
pub mod Refusing
pub mod Required
