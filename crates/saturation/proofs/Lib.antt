pub mod RuleTurns
pub mod RuleLoop
pub mod HeadTurns
pub mod AbelardHeads
pub mod HeadLoop
pub mod Links
pub mod Moving
pub mod RoundTurns
