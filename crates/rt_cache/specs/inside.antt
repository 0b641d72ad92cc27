-- What only the representation needs.
pub mod ByPath
pub mod Cuts
pub mod Handing
pub mod Held
pub mod Listed
pub mod Shared
pub mod Sources
pub mod Spans
