-- The lemmas behind the contracts of this crate.
pub mod Called
pub mod Pressed
pub mod SafeReplays
pub mod Going
