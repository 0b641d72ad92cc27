-- What a reader must believe of the public contracts stands here, in this order: the changes
-- between two views and their replay; which of them are of some kinds; a view that is changed child
-- by child. `laws` has what follows from them, with outside examples, and `inside` what only the
-- bodies need.
pub mod Changes
pub mod Errors
pub mod Kinds
pub mod Views
pub mod laws
pub mod inside
