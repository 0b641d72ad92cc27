-- Laws that are stated for callers, and outside examples.
pub mod CutOrder
pub mod Cuts
pub mod EntryOrder
pub mod Equality
pub mod Examples
pub mod KeyOrder
