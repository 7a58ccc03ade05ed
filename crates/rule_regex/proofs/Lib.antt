mod FoundPlaces
pub mod BuiltRows
pub mod Documents
pub mod Lists
