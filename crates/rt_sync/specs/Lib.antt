-- What a reader must believe stands in Core, what a core holds, and that it answers steps as the world
-- of rt_world does, and in Reads, how many children of its views a step takes anew.
-- laws/ has laws stated for callers.
-- inside/ has what only the code's invariant and the contracts of its functions need: what a core
-- holds, as a world.
pub mod Core
pub mod Reads
pub mod inside
pub mod laws
