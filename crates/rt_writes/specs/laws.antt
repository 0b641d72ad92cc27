pub mod Examples
pub mod Overlay
pub mod OverlayLaws
pub mod Places
pub mod ShallowLaws
pub mod TouchLaws
