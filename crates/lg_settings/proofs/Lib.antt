pub mod DocumentLemmas
pub mod EmptyLemmas
pub mod KeyLemmas
pub mod LimitLemmas
pub mod NameLemmas
pub mod ReadingLemmas
pub mod SchedulerLemmas
pub mod SectionLemmas
