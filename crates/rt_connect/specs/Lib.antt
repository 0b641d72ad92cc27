-- What a reader must believe stands here; what only the code needs stands in inside/.
-- Opening (a connection that begins), Hearing (what a message of the socket is, and what is heard of it),
-- Ending (how a connection ends that the client ends), Taking (what a text of the server makes of a client,
-- and prints), Doing (what lines and the connection do to a client and its seats, and what is printed for
-- it), Printing (what is printed of a client), Answers (what is answered by what), Ahead (how far the server
-- is behind, and what was read ahead), Sending (what is sent, and what is read ahead before it), Telling
-- (what each seat is told of what waits for it), Driving (what is printed of a client behind a lock), Run
-- (how many lines of an input are bad, and what a run over an input leaves).
pub mod Ahead
pub mod Answers
pub mod Doing
pub mod Driving
pub mod Ending
pub mod Hearing
pub mod inside
pub mod Opening
pub mod Printing
pub mod Run
pub mod Sending
pub mod Taking
pub mod Telling
