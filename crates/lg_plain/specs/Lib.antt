pub mod Index
pub mod Laws
pub mod Parts
pub mod Plain
pub mod Prepared
pub mod Requests
pub mod Walking
pub mod WorkLaws
