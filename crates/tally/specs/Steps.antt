-- Steps of the code between its public calls: no public contract and no statement of a theorem cites these.
pub mod Codes
pub mod Room
