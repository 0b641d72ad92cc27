pub mod Examples
pub mod Ids
