pub mod Spans
pub mod Totals
pub mod Parts
pub mod Persons
pub mod Sixteen
pub mod Padding
