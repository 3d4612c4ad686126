-- The definitions that the contracts of this crate cite, and the lemmas behind the laws that its kinds owe.
pub mod Kinds
pub mod Names
pub mod Lawful
pub mod ValuesLemmas
pub mod Bursts
pub mod Steps
pub mod Agreed
