pub mod Inferred
pub mod Kinds
pub mod Asked
pub mod Compared
pub mod Gathered
pub mod Looked
pub mod Fitting
