-- Laws that are stated for callers, and outside examples.
pub mod Bounding
pub mod Examples
pub mod Needed
pub mod NeededLaws
pub mod Paths
pub mod QueryEq
pub mod QueryOrder
pub mod RangeLaws
pub mod Ranges
pub mod Rows
pub mod Select
pub mod SupplyLaws
