pub mod Answers
pub mod RoundsTaken
pub mod Targets
pub mod RoundOrder
pub mod RestTurns
pub mod Beginnings
