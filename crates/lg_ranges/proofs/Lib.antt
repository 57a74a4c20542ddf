pub mod CallerLemmas
pub mod RangeLemmas
pub mod RequiredLemmas
