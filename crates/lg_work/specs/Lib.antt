pub mod Choosing
pub mod Reserving
pub mod Sums
