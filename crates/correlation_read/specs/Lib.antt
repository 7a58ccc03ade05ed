pub mod Timespans
pub mod Words
pub mod Checks
pub mod Correlations
pub mod Binding
pub mod Sources
pub mod Indexed
pub mod Laws
