-- What a reader has to believe: the definitions that public contracts name. In reading order:
--     PushKeys    push ids as keys
--     Codes       the number and the word of each refusal
--     Seats       what the core knows of a seat, and what a step tells it
--     Lanes       the lanes of a client's seats
--     Shared      what a client's lock keeps, and what a step makes of it
--     Calls       what calls make of it and of the caller's seat
--     Settling    what is handed over, closed, taken out and shown
--     Viewing     what is shown of a listener
--     Delivery    what is given to a sink or a mirror, and delivered over turns
--     Giving      what a seat is told, given to a work item by item
--     Opened      a client as it is opened, and its seats
--     Waiting     what a seat's thread waits for, what it gets, and calls under the client's own lock
-- laws/ has that what a seat is told keeps it up to date (Reflecting), that what the lock keeps is kept
-- (Keeping), that a mirror follows a lane (Following), what snapshots show (Showing), what goes to threads
-- (Crossing), and what the prover computes of literals (Examples, Telling);
-- inside/ what only the code's own functions need.
pub mod Calls
pub mod Codes
pub mod Delivery
pub mod Giving
pub mod inside
pub mod Lanes
pub mod laws
pub mod Opened
pub mod PushKeys
pub mod Seats
pub mod Settling
pub mod Shared
pub mod Viewing
pub mod Waiting
