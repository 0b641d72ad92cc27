-- What only the code's own functions need.
pub mod Receipts
