pub mod Answers
pub mod Desk
pub mod Desks
pub mod Faults
pub mod GoodEntry
pub mod Journal
pub mod Replay
