-- The definitions, in the order to read them. `Steps` holds what only contracts of private functions cite.
pub mod Kinds
pub mod Framed
pub mod Types
pub mod Message
pub mod Listing
pub mod Standing
pub mod Accessors
pub mod Constructors
pub mod Back
pub mod Steps
