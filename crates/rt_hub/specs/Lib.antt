-- What a reader has to believe: the definitions that public contracts name. In reading order:
--     Lines    what waits for connections, and its bounds
--     Verdicts what became of a request
--     Bounded  what a hub has its peer do
--     Hubs     what a hub holds, and what each call leaves of it
--     Runs     what one connection sees of a list of calls
--     Doors    what a door gives and takes
--     Refusing what a request is answered that can't be taken
--     Turns    what a turn of a connection leaves of a hub
--     Handing  what a hub hands over to a door
-- laws/ has what is stated for callers: that what a connection was given and what waits for it is all that
-- the peer sent it, in order (Queues), which requests are accepted (Verdicts), and rows that the prover
-- computes (Examples, Refusals);
-- inside/ what only the code's own functions need.
pub mod Bounded
pub mod Doors
pub mod Handing
pub mod Hubs
pub mod inside
pub mod laws
pub mod Lines
pub mod Refusing
pub mod Runs
pub mod Turns
pub mod Verdicts
