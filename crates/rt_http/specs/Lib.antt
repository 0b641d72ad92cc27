-- What a reader has to believe: the definitions that public contracts name. In reading order:
--     Steps              one step behind another
--     Fields, Methods    what the fields of a head say, and the words of methods
--     Marks, Heads       what is done with a request, as its head says
--     Readings           the head at the front of some bytes, by the grammar of HTTP/1.1
--     Chunks, Incomings  bodies, and the requests of a connection
--     Targets, Filters   what a target names, and the query that its words make
--     Asks               what a request asks for
--     Messages, Shallow  what a peer is asked for it, and what is answered
--     Faults, Refusals   why requests are refused
--     Statuses           the first lines of answers
--     Handshakes         which heads are handshakes of a WebSocket
--     Answers            the bytes of an answer
-- `inside` has what only the representation needs.
pub mod Answers
pub mod Asks
pub mod Chunks
pub mod Faults
pub mod Fields
pub mod Filters
pub mod Handshakes
pub mod Heads
pub mod Incomings
pub mod Marks
pub mod Messages
pub mod Methods
pub mod Readings
pub mod Refusals
pub mod Shallow
pub mod Statuses
pub mod Steps
pub mod Targets
pub mod inside
