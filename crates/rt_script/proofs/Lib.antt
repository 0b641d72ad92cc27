mod Doings
mod Runs
mod Waiting
mod Written
