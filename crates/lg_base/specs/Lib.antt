pub mod Amounts
pub mod Names
