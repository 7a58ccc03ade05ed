pub mod Chains
pub mod CommonChains
pub mod Kinds
pub mod Words
pub mod Written
