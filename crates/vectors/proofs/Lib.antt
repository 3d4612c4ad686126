-- The lemmas behind the contracts of this crate.
pub mod Hexes
pub mod Figures
pub mod Cuts
pub mod Heads
