pub mod Bill
pub mod Span
pub mod Promise
