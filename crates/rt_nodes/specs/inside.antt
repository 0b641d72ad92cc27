-- What only the representation needs: the ranks beside the links.
pub mod Often
pub mod Ranks
