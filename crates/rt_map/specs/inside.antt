-- What only the representation of a map needs.
pub mod ArcPlaces
pub mod EntryPlaces
pub mod Joined
pub mod Places
pub mod RootPlaces
pub mod Roots
