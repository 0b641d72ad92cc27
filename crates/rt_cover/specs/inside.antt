pub mod Endings
pub mod Held
pub mod Index
pub mod Least
pub mod Picked
pub mod Places
pub mod Sound
pub mod Widest
