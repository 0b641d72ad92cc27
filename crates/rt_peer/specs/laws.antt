pub mod Examples
pub mod Orders
pub mod Pushed
pub mod Runs
pub mod Turns
pub mod Versions
