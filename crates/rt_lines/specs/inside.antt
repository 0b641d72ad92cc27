pub mod Appending
pub mod FormView
