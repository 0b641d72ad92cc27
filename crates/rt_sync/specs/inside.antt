pub mod Due
pub mod Losing
pub mod Moving
pub mod Parts
pub mod Pushed
pub mod StateView
pub mod States
pub mod Viewed
