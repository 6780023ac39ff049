-- The definitions, in the order to read them. `Laws` holds what the implementation of SUA as a family cites, `Steps` what only
-- contracts of private functions cite.
pub mod Family
pub mod Form
pub mod HasForm
pub mod HopCounters
pub mod ShortTitles
pub mod Standing
pub mod Worked
pub mod Laws
pub mod Items
pub mod Steps
