-- The lemmas behind the contracts of this crate, and what they give to others.
pub mod InOrder
pub mod Taken
