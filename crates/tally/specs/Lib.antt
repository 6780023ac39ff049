-- The definitions, in the order to read them. `Steps` holds what only contracts of private functions cite.
pub mod Members
pub mod Rows
pub mod Tally
pub mod Facts
pub mod Worked
pub mod Steps
