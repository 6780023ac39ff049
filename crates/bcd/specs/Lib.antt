-- The definitions, in the order to read them. `Steps` holds what only contracts of private functions cite.
pub mod Outcome
pub mod Answers
pub mod Digits
pub mod Worked
pub mod Steps
