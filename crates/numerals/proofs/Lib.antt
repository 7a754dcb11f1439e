-- Laws that several proofs cite.
pub mod Hex
pub mod Decimals
pub mod ReadDecimals
