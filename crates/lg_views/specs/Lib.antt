pub mod Counts
pub mod Fields
pub mod Lent
pub mod Listed
pub mod Runs
pub mod Upstream
pub mod Walking
