-- The definitions, in the order to read them. `Steps` holds what only contracts of private functions cite.
pub mod Flat
pub mod Line
pub mod Account
pub mod Worked
pub mod Steps
