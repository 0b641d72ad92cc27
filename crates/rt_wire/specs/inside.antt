pub mod Places
pub mod Standing
pub mod StandingServer
pub mod StandingClient
pub mod Made
pub mod Writing
