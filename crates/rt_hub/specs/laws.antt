pub mod Examples
pub mod Queues
pub mod Refusals
pub mod Verdicts
