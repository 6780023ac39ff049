-- Laws and theorems that belong to no one function.
pub mod PointCodes
pub mod Running
pub mod Placing
pub mod Sizes
