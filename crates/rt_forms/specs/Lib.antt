-- The definitions that the contracts name, to be read in this order:
--   Numbers   numbers in rising order, with one more and with one less
--   Forms     what a contract sees of a tree of forms
--   Order     the order of the filtered forms of a path
-- inside/ has what only the representation needs.
pub mod Forms
pub mod inside
pub mod Numbers
pub mod Order
