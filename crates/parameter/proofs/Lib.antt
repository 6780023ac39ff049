-- Laws and theorems that belong to no one function.
pub mod Walking
pub mod Structure
pub mod Padding
pub mod RoundTrip
pub mod Reading
pub mod Encoding
pub mod Reaching
pub mod Counting
pub mod Ends
pub mod Filling
pub mod Records
pub mod Running
pub mod InPlace
pub mod Stored
