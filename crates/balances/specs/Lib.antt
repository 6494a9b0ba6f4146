pub mod Even
pub mod Faults
pub mod Given
pub mod Promise
pub mod Range
pub mod Signed
pub mod Tally
pub mod View
