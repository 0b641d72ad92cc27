-- What a reader has to believe: the definitions that contracts name. In reading order:
--     Asking      what a line asks for, once it was read
--     Watching    what a line does, and what is printed of what the server sends
--     Queued      the lines that wait to be done
--     Pacing      what a turn leaves, when a run sleeps, and when it ends
--     Faults      why a run ends early
--     Rounds      what a round of a run does, and a turn of its connection
pub mod Asking
pub mod Faults
pub mod Pacing
pub mod Queued
pub mod Rounds
pub mod Watching
