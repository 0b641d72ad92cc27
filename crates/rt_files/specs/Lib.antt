-- What a reader has to believe: the definitions that public contracts name. In reading order:
--     Names     which file of a folder a path names
--     Places    where it stands, and what is below a folder
--     Kinds     of which media type it is
-- laws/ has what is stated for callers: no name leads out (Names); and paths that the prover computes (Examples).
pub mod Kinds
pub mod Names
pub mod Places
pub mod laws
