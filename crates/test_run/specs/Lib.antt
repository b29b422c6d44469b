pub mod Verdicts
pub mod HeaderTexts
pub mod Coverage
pub mod Lines
