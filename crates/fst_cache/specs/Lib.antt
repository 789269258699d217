pub mod Names
pub mod Views
pub mod Replies
pub mod Seats
pub mod Kept
pub mod Making
pub mod After
pub mod Sending
