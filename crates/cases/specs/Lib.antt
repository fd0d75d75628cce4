pub mod Case
pub mod Printed
