pub mod Found
mod Indexing
