pub mod Examples
pub mod InOrder
pub mod Replays
pub mod Shows
pub mod SnapshotExamples
