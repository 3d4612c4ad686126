-- The definitions that the contracts of this crate cite.
pub mod Rule
pub mod Table
pub mod Kind
pub mod Laws
pub mod Limits
pub mod Numbers
pub mod Told
