pub mod BoundLaws
pub mod ObjectLaws
pub mod Refusals
pub mod RowLaws
pub mod ShownLaws
pub mod SortLaws
