pub mod Awaiting
pub mod Behind
pub mod Joining
pub mod Named
pub mod Sending
