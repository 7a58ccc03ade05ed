pub mod Divisions
pub mod Edits
pub mod Fits
pub mod Refused
pub mod Signs
pub mod Spells
