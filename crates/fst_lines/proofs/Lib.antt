pub mod CommandLemmas
mod GivesLemmas
mod NumbersLemmas
pub mod SendingLemmas
mod ShortLemmas
mod SmallLemmas
