pub mod Apps
pub mod Clean
pub mod Computed
pub mod Given
pub mod Matched
pub mod Table
