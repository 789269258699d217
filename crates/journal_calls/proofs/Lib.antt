mod Pairs
mod Rounds
mod Sends
