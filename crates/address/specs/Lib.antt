-- The definitions, in the order to read them. `Steps` holds what contracts of private functions
-- cite.
pub mod Address
pub mod Records
pub mod Titles
pub mod Absent
pub mod Listing
pub mod Given
pub mod Parts
pub mod Again
pub mod Lengths
pub mod Facts
pub mod Standing
pub mod Worked
pub mod Steps
