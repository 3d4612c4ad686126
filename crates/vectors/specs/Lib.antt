-- The definitions that the contracts of this crate cite.
pub mod Hex
pub mod Lines
pub mod Due
pub mod Verdicts
