-- The definitions, in the order to read them.
pub mod Parameter
pub mod Walk
pub mod Table
pub mod Answers
pub mod Items
pub mod Padding
pub mod Facts
