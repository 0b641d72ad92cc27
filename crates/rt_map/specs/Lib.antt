-- The definitions that the contracts name beside std's of a map (`insert_entry`, `remove_entry`,
-- `set_value`, `lookup`):
--   Maps      a map as a value: its entries
--   Updates   what a change of one key does to the others
--   Lent      what a map ends as once a value that it lent comes back
-- formers/ lets a type hold itself through a map. inside/ has what only the representation needs.
pub mod formers
pub mod inside
pub mod Lent
pub mod Maps
pub mod Updates
