pub mod Bools
pub mod Tables
pub mod Found
pub mod SetColumns
pub mod Rule
pub mod Neighbours
pub mod Quantities
pub mod Stars
