-- What only the representation needs.
pub mod Fine
pub mod KeyWords
pub mod LeafCode
pub mod LeafView
pub mod Puts
pub mod TreeCode
pub mod TreeFalls
pub mod TreeView
