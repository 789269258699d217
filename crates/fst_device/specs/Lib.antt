pub mod JobView
pub mod DoneView
pub mod Outcomes
pub mod MemoryView
pub mod Armed
pub mod MemoryCalls
