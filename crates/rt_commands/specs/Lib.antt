-- What a reader must believe, in reading order: Commands (the commands, as clap sees them), Hosts (the address
-- that is listened at), Words (what words ask for, and why they make no command), Connections (what clients
-- leave of a peer), Errors (the number and the name of each fault).
pub mod Commands
pub mod Connections
pub mod Errors
pub mod Hosts
pub mod Words
