pub mod Epochs
pub mod MomentLemmas
pub mod Sums
