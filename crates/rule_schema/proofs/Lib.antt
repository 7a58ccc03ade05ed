pub mod Compared
pub mod FirstRefused
pub mod Gathered
pub mod Gathering
pub mod Looking
pub mod Making
pub mod NamesApart
