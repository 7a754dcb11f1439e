pub mod Judged
pub mod Counted
pub mod Numbers
pub mod Pairs
pub mod Pieces
pub mod Moving
