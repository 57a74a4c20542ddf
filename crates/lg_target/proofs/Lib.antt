pub mod NamingLemmas
pub mod TargetLemmas
pub mod WritingLemmas
