pub mod Adding
pub mod Describing
pub mod Ending
pub mod Making
pub mod Offering
pub mod Reporting
pub mod Wanting
