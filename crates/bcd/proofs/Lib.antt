-- Laws and theorems that belong to no one function.
pub mod Outcomes
pub mod Results
pub mod Writing
pub mod Distinct
pub mod Below
pub mod Tests
pub mod Characters
pub mod Halves
pub mod Writable
pub mod Reading
pub mod Digits
pub mod Rewriting
pub mod Worked
