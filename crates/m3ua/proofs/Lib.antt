-- Laws and theorems that belong to no one function.
pub mod Pairs
pub mod Taken
pub mod Data
pub mod Settled
pub mod Worked
