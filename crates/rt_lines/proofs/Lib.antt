mod Bytes
mod Faults
mod Lists
mod Parts
