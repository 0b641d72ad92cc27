-- What a reader must believe stands here; laws/ has what is proved of it for callers, inside/ what
-- only the code's own functions need.
-- In reading order: Mailbox (what one who takes items knows), Mirrors (what keeps it), Lanes (what
-- waits, and how it is handed over), Runs (any calls, one after another), Snapshots (what is known of listeners by
-- a seat's items), Errors.
pub mod Errors
pub mod inside
pub mod Lanes
pub mod laws
pub mod Mailbox
pub mod Mirrors
pub mod Runs
pub mod Snapshots
