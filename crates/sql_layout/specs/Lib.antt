pub mod Layout
pub mod Trees
pub mod Leaves
pub mod Escaped
pub mod Halves
pub mod HalvedTrees
pub mod Lists
