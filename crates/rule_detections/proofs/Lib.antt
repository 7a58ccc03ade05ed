pub mod ByKind
pub mod Chained
pub mod Found
pub mod WholeItems
pub mod Zips
mod FormLemmas
mod Inside
pub mod PatternLemmas
mod Same
mod TestsLemmas
mod ViewLemmas
