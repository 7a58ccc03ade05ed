pub mod Grouping
pub mod Spanning
pub mod Standing
pub mod Stepping
pub mod Timely
pub mod Walking
