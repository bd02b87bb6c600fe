pub mod Steps
pub mod Ground
pub mod RuleLaws
pub mod Resting
pub mod RuleLinks
pub mod HeadSteps
pub mod Kept
