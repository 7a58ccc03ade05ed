pub mod Glyphs
pub mod Lacking
pub mod Told
pub mod Schemas
pub mod Queries
pub mod Refused
pub mod Pieces
pub mod Counts
