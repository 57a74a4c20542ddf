pub mod Digits
pub mod Joins
pub mod Shape
pub mod Summaries
pub mod Apart
