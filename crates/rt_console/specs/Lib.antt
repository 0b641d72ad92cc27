-- Errors: the exit status of a word that can't be had. Shown: which printed lines have a whole
-- value, and what is shown of a text.
pub mod Errors
pub mod Shown
