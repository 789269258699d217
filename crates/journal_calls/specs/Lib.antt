pub mod Exhausted
pub mod Writing
pub mod Making
pub mod Pairing
