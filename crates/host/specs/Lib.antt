-- The definitions that the contracts of this crate cite.
pub mod View
pub mod Presses
