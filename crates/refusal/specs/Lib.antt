pub mod Reasons
pub mod Refusals
