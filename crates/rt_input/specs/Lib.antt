-- In reading order: Lines (the lines of an input), Streams (what a reader and a writer count), Faults
-- (what an error tells of them), Errors (the number and the name of each), Causes (an error with why it
-- came), Counted (a stream of which only so much is read for one message), Log (what is told beside the
-- output), Plains (a text without what a terminal obeys). laws/ has rows that the prover computes (Examples).
pub mod Causes
pub mod Counted
pub mod Errors
pub mod Faults
pub mod laws
pub mod Lines
pub mod Log
pub mod Plains
pub mod Streams
