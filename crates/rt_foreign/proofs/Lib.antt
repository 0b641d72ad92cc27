mod Apart
mod Giving
mod Handles
mod Placing
mod Room
mod Texts
mod Written
