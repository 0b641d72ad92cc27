-- What only the representation needs.
pub mod ShownView
pub mod Sorting
