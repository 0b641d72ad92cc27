-- What a reader has to believe: the definitions that public contracts name. In reading order:
--     Taking     what messages of the server make of a client, and what is taken out of it
--     Turning    what a turn of a connection leaves to be done
--     Carrying   where a connection stands, and what a turn and a close make of that
--     Keeping    a link, and how long it waits between the connections that it keeps
--     Answering  what an item says of a request, and what a seat's items say of all of them
--     Seeing     what the snapshots of a seat's thread take of it
--     Pushing    a write by a push id
-- laws/ has what goes to threads (Crossing). What a wire gives and takes, and how long a silent server is waited
-- for, is of rt_socket; what a seat is told, given to a work item by item, is of rt_client.
pub mod Answering
pub mod Carrying
pub mod inside
pub mod Keeping
pub mod laws
pub mod Pushing
pub mod Seeing
pub mod Taking
pub mod Turning
