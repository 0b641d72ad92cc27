-- What a reader must believe stands here; what only the code needs stands in inside/.
-- In reading order: Words (numbers of a line, and its name), Calls (the calls of a query), Forms (which
-- JSON data have the form of a line), Reading (paths, trees and entries, and what refuses them), Drafts
-- (the query that calls make), Lines (what a line asks for), Refusals (layers, numbers and names of
-- refusals), Printing (what is printed), Bad (what is told of a line), Orders
-- (what a line asks of a client that is connected), Typing (what a line asks of one that is watched).
-- laws/ has lines and texts that the prover computes.
pub mod Bad
pub mod Calls
pub mod Drafts
pub mod Forms
pub mod inside
pub mod laws
pub mod Lines
pub mod Orders
pub mod Printing
pub mod Reading
pub mod Refusals
pub mod Typing
pub mod Words
