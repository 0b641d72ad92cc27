-- What a reader has to believe: the definitions that public contracts name. In reading order:
--     Entries   what a journal's lines are, and what is read of them
--     Replays   what the replay of a journal does
--     Books     what is noted of a journal, and what it begins anew with
--     Due       when a tree's file is made anew, and when a turn is to come
--     Journals  what a journal is to a contract, and what is said of its tree's file
--     Faults    the numbers and names of faults
-- laws/ has what is stated for callers, and rows that the prover computes (Examples).
pub mod Books
pub mod Due
pub mod Entries
pub mod Faults
pub mod inside
pub mod Journals
pub mod laws
pub mod Replays
