-- Laws and theorems that belong to no one function.
pub mod Tags
pub mod Worked
pub mod Ignored
pub mod Settling
pub mod TagsKept
pub mod ShortTitles
pub mod Forms
pub mod Refusals
pub mod Settled
pub mod Standing
pub mod Demand3
pub mod Passes
pub mod Taken
pub mod Measuring
pub mod Written
pub mod Whole
