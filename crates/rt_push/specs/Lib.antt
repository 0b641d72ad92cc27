-- What a reader has to believe: the definitions that public contracts name. In reading order:
--     Digits      numbers in base 64
--     PushIds     what an id is made of, and which calls are refused
--     Errors      the number and the name of each refusal
-- laws/ has what is stated for callers: ids rise, and digits stand in them (Ids); and ids that the
-- prover computes (Examples). Nothing is said of a representation alone.
pub mod Digits
pub mod Errors
pub mod PushIds
pub mod laws
