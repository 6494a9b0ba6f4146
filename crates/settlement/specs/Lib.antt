pub mod Amounts
pub mod Crews
pub mod Paying
pub mod Promise
pub mod Reading
pub mod Settle
pub mod Settled
pub mod Written
