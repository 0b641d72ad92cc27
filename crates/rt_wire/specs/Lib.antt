-- The definitions that public contracts name, in reading order. laws/ has readings and texts that
-- the prover computes; inside/ what only the code's values need.
pub mod Errors
pub mod Actions
pub mod Fields
pub mod EntryFields
pub mod Parts
pub mod PartFields
pub mod Server
pub mod FieldData
pub mod ServerData
pub mod QueryFields
pub mod QueryData
pub mod Client
pub mod ClientData
pub mod Grammar
pub mod ReadBack
pub mod Crowds
pub mod inside
pub mod laws
