-- The definitions, in the order to read them.
pub mod PointCodes
pub mod Parts
