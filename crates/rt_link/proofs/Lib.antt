pub mod Crosses
pub mod Leaving
pub mod Looked
pub mod Rounds
pub mod Seen
pub mod Taken
pub mod Told
