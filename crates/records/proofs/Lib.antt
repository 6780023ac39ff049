-- Laws and theorems that belong to no one function.
pub mod Columns
pub mod Reading
