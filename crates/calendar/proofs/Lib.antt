pub mod Formulas
pub mod Counted
