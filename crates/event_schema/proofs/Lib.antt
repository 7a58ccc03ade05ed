pub mod Examples
pub mod ListLemmas
pub mod RowLemmas
