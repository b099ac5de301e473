pub mod Cuts
pub mod Pieces
pub mod Values
pub mod Firsts
pub mod Passing
