pub mod BlockView
pub mod Choices
pub mod Reverts
pub mod Kept
