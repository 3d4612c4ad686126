-- The definitions that the contracts of this crate cite.
pub mod ParCrc
pub mod Fields
pub mod Checks
pub mod Accepted
pub mod Order
