-- Runs that show the safety statement to say something.
pub mod Reached
pub mod Runs
