-- The lemmas behind the contracts of this crate.
pub mod Octets
pub mod Given
pub mod Xor
pub mod Linear
pub mod Kernel
pub mod ByTable
pub mod Table
