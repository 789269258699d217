pub mod Counts
pub mod Exchanging
pub mod Loading
pub mod Putting
pub mod Seated
pub mod Undo
mod Dirty
mod Flying
mod InStep
mod Listing
