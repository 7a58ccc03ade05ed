pub mod NamedQueries
pub mod Queries
pub mod Rebuilt
pub mod Verdicts
