pub mod Passes
pub mod Sweeps
pub mod Dependents
pub mod Registering
pub mod Numbers
pub mod Lists
pub mod Work
