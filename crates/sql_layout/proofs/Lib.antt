mod Scanned
mod Characters
mod Read
mod Numbers
mod Sound
pub mod Written
pub mod InHalves
pub mod Lists
pub mod Chains
mod Joined
pub mod Laid
mod Examples
