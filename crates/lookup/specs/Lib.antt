-- The definitions, in the order to read them. `Steps` holds what only contracts of private functions cite.
pub mod Accessors
pub mod Screen
pub mod Contexts
pub mod Worked
pub mod Steps
