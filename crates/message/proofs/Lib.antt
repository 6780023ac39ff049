-- Laws and theorems that belong to no one function.
pub mod Found
pub mod Pairs
pub mod Headers
pub mod Framing
pub mod Ignored
pub mod Messages
pub mod Listing
pub mod Standing
pub mod Constructing
pub mod GivenBack
pub mod Constructed
pub mod ConstructedWorked
pub mod AddressBack
pub mod AddressStands
pub mod Accessed
