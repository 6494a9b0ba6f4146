pub mod Answers
pub mod Auditing
pub mod Payments
pub mod Pieces
pub mod Report
pub mod Run
pub mod Sides
pub mod Texts
