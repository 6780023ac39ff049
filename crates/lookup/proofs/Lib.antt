-- Laws that belong to no one function.
pub mod Passing
pub mod Membership
pub mod Accessing
pub mod Addresses
pub mod Screening
