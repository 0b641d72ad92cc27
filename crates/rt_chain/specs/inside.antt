-- What only the bodies need.
pub mod Halves
pub mod Links
pub mod Made
