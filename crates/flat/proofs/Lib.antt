-- Laws and theorems that belong to no one function.
pub mod FlatList
pub mod Summing
pub mod FlatWriting
pub mod Emission
pub mod Describing
pub mod OtherPlaces
pub mod Accounting
pub mod DataAccount
pub mod Going
pub mod AccountDone
pub mod Lines
pub mod Printing
pub mod Program
pub mod Worked
