-- What a chain is, and how its nodes are linked.
pub mod Chains
pub mod inside
