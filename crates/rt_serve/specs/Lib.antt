-- What a reader has to believe: the definitions that public contracts name.
--     Sessions    what a connection that is served is to the peer
--     Errors      the number and the name of each error
-- Those that the steps of a connection name, none of which is public:
--     Codes       the code that a client is told
--     Reads       what a read of the socket says, and what that is to the peer
--     Answers     what is sent to the connection for a text
--     Closing     the close that a client is sent which broke the protocol
--     Endings     what is told of the end of a connection
--     Handshakes  whether a handshake came about
-- laws/ has what is stated for callers: what such a connection leaves as it was (Sessions).
pub mod Answers
pub mod Closing
pub mod Codes
pub mod Endings
pub mod Errors
pub mod Handshakes
pub mod Reads
pub mod Sessions
pub mod laws
