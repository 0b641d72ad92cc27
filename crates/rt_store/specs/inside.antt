-- What only the representation needs: the trees at linked nodes, and how these change.
pub mod Changes
pub mod Entries
pub mod Growing
pub mod StoreView
