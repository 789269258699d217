pub mod Crewing
