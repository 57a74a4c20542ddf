pub mod CallLemmas
pub mod CallerLemmas
pub mod InfoLemmas
pub mod LimitLemmas
pub mod LookLemmas
pub mod MethodLemmas
mod MomentLemmas
pub mod OrderLemmas
pub mod RangeLemmas
pub mod RankLemmas
pub mod ReadingLemmas
pub mod SearchLemmas
pub mod StepLemmas
pub mod TaskLemmas
pub mod ValidLemmas
pub mod WorkExamples
