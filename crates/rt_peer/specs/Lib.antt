-- What a reader has to believe: the definitions that public contracts name. In reading order:
--     Peers       what a peer holds
--     Pushes      what listens show, and what they are sent when a write changes that
--     Calls       what each call leaves, and what it sends
--     Runs        runs of calls, and what they write
--     Turns       the end of a connection in turns
--     Lengths     how long the text of a tree is
--     Errors      the number and the name of each refusal
-- laws/ has what is stated for callers: what any calls leave in the tree (Runs), the orders that what
-- is held stands in (Orders), and runs that the prover computes (Examples). inside/ has what only the
-- representation keeps.
pub mod Calls
pub mod Errors
pub mod Lengths
pub mod Peers
pub mod Pushes
pub mod Runs
pub mod Turns
pub mod inside
pub mod laws
