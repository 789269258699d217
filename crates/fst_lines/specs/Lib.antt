pub mod Members
pub mod Commands
pub mod Parsing
pub mod Sending
pub mod Pieces
pub mod Replies
pub mod Short
pub mod Small
