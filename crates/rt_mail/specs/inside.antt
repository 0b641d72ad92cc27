pub mod Histories
pub mod Places
