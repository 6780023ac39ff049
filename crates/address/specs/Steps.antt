-- Steps of the code between its public calls. No public contract of this crate cites these.
pub mod Kept
pub mod Plan
pub mod GivenParts
