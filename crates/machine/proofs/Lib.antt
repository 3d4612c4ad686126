-- Why the safety statement holds: an invariant of the pair, kept by every call.
pub mod Numbers
pub mod Cases
pub mod Octets
pub mod Traces
pub mod Lines
pub mod Invariant
pub mod Steps
pub mod Composing
pub mod Each
pub mod Takes
pub mod Kept
pub mod Stands
