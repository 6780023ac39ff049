-- The definitions, in the order to read them. `Steps` holds what only contracts of private functions cite.
pub mod Sccp
pub mod Facts
pub mod Worked
pub mod Steps
