mod Answered
mod Apart
mod Calm
mod Caseless
mod DepthLemmas
mod DepthRows
mod Doubled
mod FieldKinds
mod Guards
mod Laid
mod TreeLaws
mod LeafMeans
mod Lists
mod Nested
mod Numbers
mod PolarityLemmas
mod Rows
mod Sounds
mod TextRows
mod Texts
mod Whole
pub mod NoLack
pub mod Signed
