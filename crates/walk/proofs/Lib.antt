pub mod Listing
pub mod Rounding
pub mod FirstRuns
pub mod RoundTurns
pub mod Alone
pub mod Nest
