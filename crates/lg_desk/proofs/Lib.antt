mod Calls
pub mod CallerLemmas
mod Ends
mod Journals
mod Passes
mod Pushes
mod Replays
