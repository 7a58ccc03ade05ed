pub mod Checks
pub mod Copies
pub mod FieldLemmas
pub mod Joining
