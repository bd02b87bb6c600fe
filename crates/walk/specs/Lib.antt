pub mod RoundJobs
pub mod RoundJobLaws
pub mod TurnLaws
pub mod RoundPast
