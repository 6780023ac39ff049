-- The definitions, in the order to read them. `Laws` holds what the implementation of M3UA as a family cites.
pub mod Types
pub mod ProtocolData
pub mod Form
pub mod Worked
pub mod Fields
pub mod Laws
