-- Lemmas of this crate.
pub mod Lengths
