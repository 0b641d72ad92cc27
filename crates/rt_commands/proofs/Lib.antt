mod Asking
mod Clients
mod Flags
mod Hosts
mod Numbers
mod Several
