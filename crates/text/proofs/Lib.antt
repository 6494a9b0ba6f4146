pub mod Audits
pub mod Payments
pub mod Pieces
pub mod Reports
pub mod Sides
pub mod Taken
