pub mod Sent
pub mod Arrivals
pub mod Written
