-- What a reader must believe stands here; laws/ holds the laws and examples that the prover computes.
-- In reading order: World (listeners, requests, what is brought), Views (what a listener shows), steps/
-- (what each kind of step does, and what refuses it), After (what a step leaves), Messages (what it
-- sends, and the world after it), Refusals (in which order the refusals are looked at), Answers (what a
-- step answers), Runs (what the server hears), Headline (what any steps lead to), Plain (the same of
-- what is written and brought), Touched (which children of a view a step can change), Met (which
-- listeners a step has to look at), Covering (the cover of a world), Limited (what keeps within the
-- limits), Sound, Called and Reached (what holds of a world between steps), Calls (seats' calls and
-- messages of the server as steps), Codes (numbers and words of refusals).
pub mod After
pub mod Answers
pub mod Called
pub mod Calls
pub mod Codes
pub mod Covering
pub mod Headline
pub mod laws
pub mod Limited
pub mod Messages
pub mod Met
pub mod Plain
pub mod Reached
pub mod Refusals
pub mod Runs
pub mod Sound
pub mod steps
pub mod Touched
pub mod Views
pub mod World
