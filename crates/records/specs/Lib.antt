-- The definitions, in the order to read them.
pub mod Columns
pub mod Reader
