pub mod HeldView
pub mod Named
pub mod Pairs
pub mod Placed
pub mod Requests
pub mod Unknown
pub mod Writes
