-- The lemmas behind the contracts of this crate.
pub mod Along
