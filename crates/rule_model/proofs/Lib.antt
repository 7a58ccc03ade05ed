pub mod ConditionLists
pub mod Faultless
pub mod OneRule
pub mod Places
pub mod RuleLemmas
pub mod SomeRule
pub mod Texts
pub mod WholeRule
mod AsBuilt
mod Lone
mod Placed
pub mod Iffs
