-- Steps of the code between its public calls. No public contract of this crate cites these.
pub mod Parts
