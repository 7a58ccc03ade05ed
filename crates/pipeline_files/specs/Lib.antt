pub mod Paired
pub mod Outcomes
pub mod Places
pub mod Gathered
pub mod Laws
pub mod Read
