mod Walks
pub mod Calls
pub mod Crosses
pub mod Halving
pub mod Handing
pub mod Places
pub mod Rising
pub mod Again
