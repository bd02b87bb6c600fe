pub mod Sessions
pub mod Telling
