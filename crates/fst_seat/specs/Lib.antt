pub mod Names
pub mod Seen
pub mod Seats
pub mod Kept
pub mod Places
pub mod Residing
pub mod Writing
