pub mod BatchId
pub mod Digest
pub mod TaskId
