-- What only the bodies need.
pub mod Differences
pub mod Given
pub mod ChildChain
pub mod ViewIndex
pub mod Positions
pub mod Ranged
pub mod Telling
pub mod Turns
pub mod Windows
