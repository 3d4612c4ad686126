-- The definitions that the contracts of this crate cite.
pub mod Views
pub mod Seeing
pub mod Callings
pub mod Made
pub mod Runs
