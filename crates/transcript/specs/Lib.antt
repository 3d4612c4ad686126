-- The definitions that the contracts of this crate cite.
pub mod Benches
pub mod Replays
pub mod Standing
pub mod Transcripts
