-- What a reader has to believe: the definitions that public contracts name. In reading order:
--     Emulating  what an emulator is to do
--     Origins    what no browser writes as an origin
--     Protocols  which handshakes are of another protocol
--     Handshakes what a handshake is answered that doesn't come about
--     Asked      which requests by plain HTTP are let in
--     Clients    what one that asks who is connected is told
--     Faults     the numbers and names of faults
--     Levels     which lines it says of itself
--     Diaries    these lines, until they are written
-- laws/ has rows that the prover computes (Examples); inside/ has what only the code's own functions need.
pub mod Asked
pub mod Clients
pub mod Diaries
pub mod Emulating
pub mod Faults
pub mod Handshakes
pub mod inside
pub mod laws
pub mod Levels
pub mod Origins
pub mod Protocols
