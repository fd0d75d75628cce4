-- The definitions that the contracts of `verdict` cite. Assumes nothing.
pub mod Reading
pub mod Steps
pub mod Rules
pub mod Balance
pub mod Statement
pub mod Handed
pub mod Worked
