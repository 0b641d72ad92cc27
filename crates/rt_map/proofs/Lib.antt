pub mod Order
pub mod Entries
pub mod Lookups
pub mod Parts
pub mod Before
