-- What a reader has to believe: the definitions that public contracts name. In reading order:
--     Wires      what a wire gives and takes
--     Reading    what is read of a wire, in one go, and what it is given
--     Hearing    what a read, a write and a flush of a WebSocket say
--     Sockets    what a WebSocket as a wire is, and a stream of which only so much is read in one go
--     Awaiting   what is heard by one who waits for the other side, and what is sent
--     Origins    which web pages may connect, by their origins
--     Handshakes what a handshake is answered that doesn't come about
--     Waiting    how long a silent server is waited for
pub mod Awaiting
pub mod Handshakes
pub mod Hearing
pub mod inside
pub mod laws
pub mod Origins
pub mod Reading
pub mod Sockets
pub mod Waiting
pub mod Wires
