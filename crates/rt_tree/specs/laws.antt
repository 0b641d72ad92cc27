-- Laws that are stated for callers.
pub mod Allowed
pub mod Children
pub mod Examples
pub mod JsonExamples
pub mod Parts
pub mod PathTree
pub mod Prefixes
pub mod TreeEq
pub mod TreeLaws
