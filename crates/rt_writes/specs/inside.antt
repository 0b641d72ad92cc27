pub mod ByNumber
pub mod Sorted
pub mod Spots
