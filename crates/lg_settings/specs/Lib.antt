pub mod Faults
pub mod Limits
pub mod Names
pub mod Numbers
pub mod Reading
pub mod Scheduler
pub mod Sections
pub mod Settings
