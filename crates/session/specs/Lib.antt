pub mod Session
pub mod SessionLaws
pub mod NumberedLaws
pub mod MoveLaws
