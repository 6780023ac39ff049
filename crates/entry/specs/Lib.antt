-- The definitions.
pub mod Entries
