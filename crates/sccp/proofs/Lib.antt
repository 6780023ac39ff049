-- Laws and theorems that belong to no one function.
pub mod Invalid
pub mod Known
pub mod Copying
pub mod Writing
pub mod Digits
pub mod Parts
pub mod Parties
pub mod Taking
pub mod Values
pub mod Back
pub mod Exactly
pub mod Worked
pub mod PartyExactly
pub mod PartyWriting
pub mod ValueReading
pub mod ValueWriting
