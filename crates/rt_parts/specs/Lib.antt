-- What a reader must believe stands in Listeners: what the listeners are, and the views that they
-- hold; in Refreshed: what becomes of a view whose path an entry meets; in Renewed: what becomes of the
-- listeners of some queries; in Settling: what is left of a request that is settled; and in Errors:
-- numbers and words of errors. What is pending of requests stands in rt_world. inside/ has what only
-- the code's invariant and the contracts of its functions need.
pub mod Errors
pub mod Listeners
pub mod Refreshed
pub mod Renewed
pub mod Settling
pub mod inside
